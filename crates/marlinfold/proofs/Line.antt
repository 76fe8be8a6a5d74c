-- A derivation by the borrow rules, written by hand: each line of the code with its rule, and what is asked for it gathered on the way.
--     Line Γ b Δ       the code b, from the context Γ with the ways out Δ: what it asks (`asks`), and the derivation (`runs`)
--     s ⨾ l            the statement s, then the lines l
--     g ▸ l            a ghost step before the lines l
--     last s           a statement that is the last of its part
--     part Γ₁ l k      the lines l, which may leave, then from Γ₁ the lines k
--     test             the two arms of an `if`
--     falls, leaves, comes_back     `skip`, `exit n` and `return`
--     body, turns      a block, and a loop by values (`Table/Typed.antt`'s `t_loop_by`)
--     sets, op, frees  the commonest statements, at a local d that holds a scalar: `d = x`, `d = x o y`, and d is given up (a ghost step)
-- It names no function, so any walk may use it. `asks` computes, so what a walk asks is a tuple in the order of its lines.
use Prim.Native.Nat.{ℕ}
use mathlib.Core.Path.{◌≡◌}
use mathlib.Core.Bool.{Bool}
use mathlib.Core.Option.{some}
use mathlib.Core.List.{[]}
use seplogic.Ra.Ura.{Ura}
use lib.Dec.{T}
use mir.Syntax.{Ty, Body, Op2, seq, skip, exit, return, block, loop, cond, copy, place, ty_bool, assign, rv_opd, op2}
use mir.Val.{vbool, has_ty, op2_val}
use prog.Wp.{Env, Tables, spot_of}
use types.Logic.{Logic}
use borrow.Table.Row.{Cx, Sc, ty_s, val_s, get_row}
use borrow.Table.Rows.{sc_here, any_gone}
use borrow.Table.Reads.{ReadsAs, ToRoom}
use borrow.Table.Typed.{Mo, Outs, TF, Tf, pass, the, Leaves, exit_at, with_next, want_next, in_block₀, in_block, in_loop₀, at_next, at_exit, at_ret, LoopBy, Typed, Stmt, Ghost, s_seq, t_seq, g_pre_lem, s_Typed, t_skip, t_exit, t_return, t_block, t_loop_by}
use borrow.Rule.Scalar.{Oper, op_o, val_o, HasO, After, n_room, Φcond, Φuse, Φop2, Holds-Sc, t_use, t_op2, t_cond, g_room}

module _ {M : Type 1} {𝓤 : Ura M} (𝓛 : Logic 𝓤) (𝓣 : Tables 𝓤 𝓛.H) (E : Env 𝓤 𝓛.H) where
  pub record Line (Γ : Cx) (b : Body) (Δ : Outs) : Type 2 where
    pub asks : TF Γ Δ
    pub runs : Typed 𝓛 𝓣 E Γ b Δ asks

module _ {M : Type 1} {𝓤 : Ura M} {𝓛 : Logic 𝓤} {𝓣 : Tables 𝓤 𝓛.H} {E : Env 𝓤 𝓛.H} where
  open 𝓛 use {H}

  abbrev pub ◌⨾◌ : {Γ Γ₁ : Cx} {a b : Body} {Δ : Outs} {φ : Tf Γ Γ₁} → Stmt 𝓛 𝓣 E Γ a Γ₁ φ → Line 𝓛 𝓣 E Γ₁ b Δ → Line 𝓛 𝓣 E Γ (seq a b) Δ
  ◌⨾◌ {Γ} {Γ₁} {a} {b} {Δ} {φ} s l = record { asks = λ Ψ. φ (l.asks Ψ); runs = s_seq 𝓛 𝓣 E Γ Γ₁ a b Δ φ l.asks s l.runs }

  abbrev pub ◌▸◌ : {Γ Γ₁ : Cx} {b : Body} {Δ : Outs} {φ : Tf Γ Γ₁} → Ghost 𝓛 E Γ Γ₁ φ → Line 𝓛 𝓣 E Γ₁ b Δ → Line 𝓛 𝓣 E Γ b Δ
  ◌▸◌ {Γ} {Γ₁} {b} {Δ} {φ} g l = record { asks = λ Ψ. φ (l.asks Ψ); runs = g_pre_lem 𝓛 𝓣 E Γ Γ₁ b Δ φ l.asks g l.runs }

  infixr 20 ◌⨾◌
  infixr 20 ◌▸◌
  abbrev pub last : {Γ : Cx} {a : Body} {Δ : Outs} {φ : Tf Γ (the Δ.next)} → Leaves Δ.next → Stmt 𝓛 𝓣 E Γ a (the Δ.next) φ → Line 𝓛 𝓣 E Γ a Δ
  last {Γ} {a} {Δ} {φ} z s = record { asks = λ Ψ. φ (at_next Δ Ψ); runs = s_Typed 𝓛 𝓣 E Γ a Δ φ z s }

  abbrev pub part : {Γ : Cx} {a b : Body} {Δ : Outs} (Γ₁ : Cx) → Line 𝓛 𝓣 E Γ a (with_next (some Γ₁) Δ) → Line 𝓛 𝓣 E Γ₁ b Δ → Line 𝓛 𝓣 E Γ (seq a b) Δ
  part {Γ} {a} {b} {Δ} Γ₁ l k = record { asks = λ Ψ. l.asks (want_next Γ₁ Δ (k.asks Ψ) Ψ); runs = t_seq 𝓛 𝓣 E Γ Γ₁ a b Δ l.asks k.asks l.runs k.runs }

  abbrev pub test : {Γ : Cx} {a b : Body} {Δ : Outs} (nc : ℕ) (t : (get_row nc Γ.locals).1.Mod → Bool) → ReadsAs 𝓛 (get_row nc Γ.locals).1 ty_bool (λ x. vbool (t x)) → (spot_of 𝓤 H E (get_row nc Γ.locals).0).0 ≡ ty_bool
      → Line 𝓛 𝓣 E Γ a Δ → Line 𝓛 𝓣 E Γ b Δ → Line 𝓛 𝓣 E Γ (cond (copy (place (get_row nc Γ.locals).0 [])) a b) Δ
  test {Γ} {a} {b} {Δ} nc t rd e l k = record { asks = Φcond Γ Δ nc t l.asks k.asks; runs = t_cond 𝓛 E 𝓣 Γ nc t a b Δ l.asks k.asks rd e l.runs k.runs }

  abbrev pub falls : {Δ : Outs} → Leaves Δ.next → Line 𝓛 𝓣 E (the Δ.next) skip Δ
  falls {Δ} z = record { asks = at_next Δ; runs = t_skip 𝓛 𝓣 E Δ z }

  abbrev pub leaves : {Δ : Outs} (n : ℕ) → Leaves (exit_at n Δ) → Line 𝓛 𝓣 E (the (exit_at n Δ)) (exit n) Δ
  leaves {Δ} n z = record { asks = at_exit n Δ; runs = t_exit 𝓛 𝓣 E n Δ z }

  abbrev pub comes_back : {Δ : Outs} → Leaves Δ.returns → Line 𝓛 𝓣 E (the Δ.returns) return Δ
  comes_back {Δ} z = record { asks = at_ret Δ; runs = t_return 𝓛 𝓣 E Δ z }

  abbrev pub body : {Γ : Cx} {b : Body} {Δ : Outs} → Line 𝓛 𝓣 E Γ b (in_block₀ Δ) → Line 𝓛 𝓣 E Γ (block b) Δ
  body {Γ} {b} {Δ} l = record { asks = λ Ψ. l.asks (in_block Δ Ψ); runs = t_block 𝓛 𝓣 E Γ b Δ l.asks l.runs }

  abbrev pub turns : {Vs : Type 0} {Γ : Cx} {b : Body} {Δ : Outs} (put : Vs → Mo Γ → Mo Γ) (I : Mo Γ → Vs → Type 0) (μ : Mo Γ → Vs → ℕ) → Line 𝓛 𝓣 E Γ b (in_loop₀ Γ Δ) → Line 𝓛 𝓣 E Γ (loop b) Δ
  turns {Vs} {Γ} {b} {Δ} put I μ l = record { asks = LoopBy Γ Δ put I μ l.asks; runs = t_loop_by 𝓛 𝓣 E Γ b Δ put I μ l.asks l.runs }

-- ── statements on scalars. The equations are `refl` and `tt` at a table that is written out: the local's type, and that the value put is a machine value of it
module _ {M : Type 1} {𝓤 : Ura M} (𝓛 : Logic 𝓤) {𝓣 : Tables 𝓤 𝓛.H} {E : Env 𝓤 𝓛.H} {Γ : Cx} (d : ℕ) (σ : Sc) where
  open 𝓛 use {H}

  pub sets : (x : Oper Γ.locals) → HasO 𝓛 E Γ.locals x → ToRoom 𝓛 (get_row d Γ.locals).1 (ty_s σ) → (spot_of 𝓤 H E (get_row d Γ.locals).0).0 ≡ ty_s σ
      → ((u : Mo Γ) → val_s σ (σ.of (val_o Γ.locals x u)) ≡ val_o Γ.locals x u) → ((u : Mo Γ) → T (has_ty (ty_s σ) (val_o Γ.locals x u)))
      → Stmt 𝓛 𝓣 E Γ (assign (place (get_row d Γ.locals).0 []) (rv_opd (op_o Γ.locals x))) (After Γ d (sc_here σ)) (Φuse Γ x d (sc_here σ) σ.of)
  sets x hx room e same ty = t_use 𝓛 E 𝓣 Γ x d (sc_here σ) (ty_s σ) (val_s σ) σ.of hx room (Holds-Sc 𝓛 σ) e same ty

  pub op : (o : Op2) (x y : Oper Γ.locals) → HasO 𝓛 E Γ.locals x → HasO 𝓛 E Γ.locals y → ToRoom 𝓛 (get_row d Γ.locals).1 (ty_s σ) → (spot_of 𝓤 H E (get_row d Γ.locals).0).0 ≡ ty_s σ
      → ((u : Mo Γ) → val_s σ (σ.of (op2_val o (val_o Γ.locals x u) (val_o Γ.locals y u))) ≡ op2_val o (val_o Γ.locals x u) (val_o Γ.locals y u)) → ((u : Mo Γ) → T (has_ty (ty_s σ) (op2_val o (val_o Γ.locals x u) (val_o Γ.locals y u))))
      → Stmt 𝓛 𝓣 E Γ (assign (place (get_row d Γ.locals).0 []) (op2 o (op_o Γ.locals x) (op_o Γ.locals y))) (After Γ d (sc_here σ)) (Φop2 Γ o x y d (sc_here σ) σ.of)
  op o x y hx hy room e same ty = t_op2 𝓛 E 𝓣 Γ o x y d (sc_here σ) (ty_s σ) (val_s σ) σ.of hx hy room (Holds-Sc 𝓛 σ) e same ty

module _ {M : Type 1} {𝓤 : Ura M} (𝓛 : Logic 𝓤) {E : Env 𝓤 𝓛.H} {Γ : Cx} (d : ℕ) where
  pub frees : (τ : Ty) → ToRoom 𝓛 (get_row d Γ.locals).1 τ → Ghost 𝓛 E Γ (After Γ d (any_gone τ)) (pass Γ (After Γ d (any_gone τ)) (n_room Γ d τ))
  frees τ room = g_room 𝓛 E Γ d τ room
