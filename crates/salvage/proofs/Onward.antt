-- Laws of a salvage reading under way. Assumes nothing.
use Prim.Native.Nat.{ℕ, zero, suc, ◌+◌, ◌*◌, ◌-◌, ◌≤◌, ◌<◌}
use mathlib.Core.Path.{◌≡◌, refl, sym, ap, ap₂, ◌∙◌, subst}
use mathlib.Core.List.{List, [], ◌∷◌, ◌++◌, append_assoc, append-nil}
use mathlib.Core.Bool.{Bool, true, false}
use mathlib.Core.Option.{none, some}
use native.Mathlib.Omega.{arith}
use native.Mathlib.Nat.{add-zero, zero-add}
use borrow.Author.Tests.{leb-true, leb-false}
use lib.Dec.{leb}
use lib.ListN.{length, length-append}
use Rattle.stream.specs.Command.{command_at}
use Rattle.stream.specs.CommandEnds.{CommandEnds}
use Rattle.stream.specs.Reading.{Action, Spelled, onward, spelled_in, spelled_from, first_target, with_number, with_code, Progress, none_counted, obey_all, read_from, Ended}
use Rattle.stream.specs.Underway.{read_on, Underway, ended_of, EndsWithin}
use Rattle.stream.specs.declared.command.Command.{Command}
use Rattle.stream.specs.declared.command.Command.TheVariants.{SetFont, SetCode, FontBlock, CharacterBlock, Broken, End}
use Rattle.stream.specs.declared.reading.CommandCounts.{CommandCounts}
use Rattle.stream.specs.Reading.{Ending}
use Rattle.std.specs.Prelude.{None, Some}
use Rattle.stream.specs.declared.reading.State.{State}
use Rattle.stream.specs.declared.reading.Target.{Target}
use Rattle.stream.proofs.Commands.{command_at_ends, command_past}
use Rattle.salvage.specs.Salvage.{restart_from, Stretch, Salvage, read_then, skip_then, past_tear, salvage_in, salvage_of, list_of, room_of, salvaged_by, salvaging}
use Rattle.salvage.specs.Onward.{salvage_from, salvaged_on, going_on, started_at, stretch_of}
use Rattle.form.specs.Num.{low_first}
use Rattle.form.specs.Cursor.{Points}
use Rattle.form.specs.Model.{Store, decode}
use Rattle.form.specs.Checks.{on_store}
use Rattle.form.proofs.Numbers.{length_le}
use Rattle.store.specs.Answer.{no_run}
use Rattle.stream.specs.declared.reading.Stopped.{Stopped}
use Rattle.change.specs.Put.{with_bytes}
use Rattle.change.proofs.Puts.{put_nil, put_put}
use Rattle.salvage.proofs.Restarts.{restart_within}
use Rattle.salvage.proofs.Eights.{stretch_length}

-- ── a 13 stands within the stream, at or behind the place where the reading began
abbrev pub Within : ℕ → ℕ → Ending → Type 0
Within n at None = Unit {0}
Within n at (Some p) = (at ≤ p) × (p < n)

abbrev Goes : Command → Type 0
Goes (SetFont n e) = Unit {0}
Goes (SetCode n e) = Unit {0}
Goes (FontBlock f e) = Unit {0}
Goes (CharacterBlock f e) = Unit {0}
Goes Broken = Unit {0}
Goes End = ⊥

broken_within : (b : List ℕ) (at : ℕ) → command_at b at ≡ Broken → at < length b
broken_within b at q = go (leb (length b) at) refl
  where
    go : (a : Bool) → leb (length b) at ≡ a → at < length b
    go true h = absurd (subst Goes (sym q ∙ command_past b at (leb-true _ _ h)) tt)
    go false h = leb-false _ _ h

later : (n a e : ℕ) (x : Ending) → a ≤ e → Within n e x → Within n a x
later n a e None l h = tt
later n a e (Some p) l h = (omega (arith, h.0), h.1)

step_within : (b : List ℕ) (f : ℕ → Target → Spelled) (at : ℕ) (t : Target) (c : Command) → command_at b at ≡ c → CommandEnds at (length b) c
    → ((e : ℕ) (u : Target) → Within (length b) e (f e u).ending) → Within (length b) at (onward b f at t c).ending
unfolding onward CommandEnds
step_within b f at t (SetFont v e) q h i = later (length b) at e (f e (with_number v t)).ending (omega (arith, h.0)) (i e (with_number v t))
step_within b f at t (SetCode v e) q h i = later (length b) at e (f e (with_code v t)).ending (omega (arith, h.0)) (i e (with_code v t))
step_within b f at t (FontBlock a e) q h i = later (length b) at e (f e t).ending (omega (arith, h.0, h.1)) (i e t)
step_within b f at t (CharacterBlock a e) q h i = later (length b) at e (f e t).ending (omega (arith, h.0, h.1)) (i e t)
step_within b f at t Broken q h i = (omega arith, broken_within b at q)
step_within b f at t End q h i = tt

in_within : (k : ℕ) (b : List ℕ) (at : ℕ) (t : Target) → Within (length b) at (spelled_in k b at t).ending
unfolding spelled_in
in_within zero b at t = tt
in_within (suc k) b at t = step_within b (spelled_in k b) at t (command_at b at) refl (command_at_ends b at) (λ e u. in_within k b e u)

pub ending_within : (b : List ℕ) (at : ℕ) (t : Target) → Within (length b) at (spelled_from b at t).ending
unfolding spelled_from
ending_within b at t = in_within (suc (length b - at)) b at t

-- ── more fuel changes nothing
same_tear : (b : List ℕ) (f g : ℕ → ℕ → Salvage) (at room : ℕ) (x : Ending) → Within (length b) at x
    → ((e r : ℕ) → at < e → e ≤ length b → at < length b → f e r ≡ g e r) → past_tear b f room x ≡ past_tear b g room x
same_tear b f g at room None h i = refl
same_tear b f g at zero (Some p) h i = refl
same_tear b f g at (suc room) (Some p) h i =
    let w = restart_within b (p + 1) (omega (arith, h.1)) in
    ap (skip_then _) (i (restart_from b (p + 1)) room (omega (arith, h.0, w.0)) w.1 (omega (arith, h.0, h.1)))

enough : (k m : ℕ) (b : List ℕ) (at room : ℕ) → length b - at < k → length b - at < m → salvage_in k b at room ≡ salvage_in m b at room
unfolding salvage_in
enough zero m b at room p q = absurd (omega arith)
enough (suc k) zero b at room p q = absurd (omega arith)
enough (suc k) (suc m) b at room p q =
    ap (read_then (spelled_from b at first_target).actions)
    (same_tear b (salvage_in k b) (salvage_in m b) at room (spelled_from b at first_target).ending (ending_within b at first_target) (λ e r l h j. enough k m b e r (omega arith) (omega arith)))

pub salvage_eq : (b : List ℕ) (at room : ℕ)
    → salvage_from b at room ≡ read_then (spelled_from b at first_target).actions (past_tear b (salvage_from b) room (spelled_from b at first_target).ending)
unfolding salvage_from salvage_in
salvage_eq b at room =
    ap (read_then (spelled_from b at first_target).actions)
    (same_tear b (salvage_in (length b - at) b) (λ e r. salvage_in (suc (length b - e)) b e r) at room (spelled_from b at first_target).ending (ending_within b at first_target)
    (λ e r l h j. enough (length b - at) (suc (length b - e)) b e r (omega arith) (omega arith)))

pub salvage_whole : (b : List ℕ) (room : ℕ) → salvage_of b room ≡ salvage_from b 0 room
unfolding salvage_of salvage_from
salvage_whole b room = let e : length b ≡ length b - 0 = omega arith in ap (λ (k : ℕ). salvage_in (suc k) b 0 room) e

-- ── carrying out a list of actions and then another
pub obey_append : (a b : List Action) (x : Progress) → obey_all (a ++ b) x ≡ obey_all b (obey_all a x)
unfolding obey_all
obey_append [] b x = refl
obey_append (c ∷ a) b x = obey_append a b (Rattle.stream.specs.Reading.obey c x)

-- ── there are no more stretches than the list has room for
no_more : (k : ℕ) (b : List ℕ) (at room : ℕ) → length (salvage_in k b at room).stretches ≤ room
unfolding salvage_in
no_more zero b at room = omega arith
no_more (suc k) b at room = go (λ e r. no_more k b e r) room (spelled_from b at first_target).ending
  where
    go : ((e r : ℕ) → length (salvage_in k b e r).stretches ≤ r) → (room : ℕ) (x : Ending) → length (past_tear b (salvage_in k b) room x).stretches ≤ room
    go f room None = omega arith
    go f zero (Some p) = omega arith
    go f (suc room) (Some p) = omega (arith, f (restart_from b (p + 1)) room)

pub few_stretches : (b : List ℕ) (at room : ℕ) → length (salvage_from b at room).stretches ≤ room
unfolding salvage_from
few_stretches b at room = no_more (suc (length b - at)) b at room

pub list_length : (ts : List Stretch) → length (list_of ts) ≡ length ts * 16
unfolding list_of
list_length [] = refl
list_length (t ∷ ts) =
    omega (arith, length-append (low_first 8 t.first) (low_first 8 t.size ++ list_of ts), length-append (low_first 8 t.size) (list_of ts), length_le 8 t.first, length_le 8 t.size, list_length ts)

list_more : (t : Stretch) (ts : List Stretch) → stretch_of t.first t.size ++ list_of ts ≡ list_of (t ∷ ts)
unfolding list_of
list_more t ts = append_assoc (low_first 8 t.first) (low_first 8 t.size) (list_of ts)

-- ── one reading, by what it answered
plain_end : (l : List Action) (out : List ℕ) (n : ℕ) (p q : Progress) → p ≡ q
    → salvaged_on (record { actions = l; stretches = []; full = false }) out n p ≡ record { refusal = 0; stretches = n; done = q.counts.done; refused = q.counts.refused; store = q.bytes; out = out }
unfolding list_of
plain_end l out n p q e = rw (e, put_nil out (n * 16), add-zero n)

plain_full : (l : List Action) (out : List ℕ) (n : ℕ) (p q : Progress) → p ≡ q
    → salvaged_on (record { actions = l; stretches = []; full = true }) out n p ≡ record { refusal = 12; stretches = 0; done = 0; refused = 0; store = q.bytes; out = out }
unfolding list_of
plain_full l out n p q e = rw (e, put_nil out (n * 16))

-- a stretch more
plain_on : (l : List Action) (t : Stretch) (w : Salvage) (out : List ℕ) (n : ℕ) (p q : Progress) → p ≡ q → (n + 1) * 16 + length w.stretches * 16 ≤ length out
    → salvaged_on (record { actions = l; stretches = t ∷ w.stretches; full = w.full }) out n p ≡ salvaged_on w (with_bytes out (n * 16) (stretch_of t.first t.size)) (n + 1) q
plain_on l t w out n p q e h =
    let k : n + suc (length w.stretches) ≡ n + 1 + length w.stretches = omega arith in
    let j : with_bytes (with_bytes out (n * 16) (stretch_of t.first t.size)) ((n + 1) * 16) (list_of w.stretches) ≡ with_bytes out (n * 16) (list_of (t ∷ w.stretches)) =
    put_put out (n * 16) (stretch_of t.first t.size) (list_of w.stretches) ((n + 1) * 16) (omega (arith, stretch_length t.first t.size))
    (omega (arith, stretch_length t.first t.size, list_length w.stretches))
    ∙ ap (λ (m : List ℕ). with_bytes out (n * 16) m) (list_more t w.stretches) in
    rw (e, k, j)

module _ (b s u : List ℕ) (x : State) (r : Stopped) (t : x.target ≡ first_target) (h : ended_of r u ≡ read_on b s x) where
  abbrev before_it : Progress
  before_it = record { counts = x.counts; bad = x.bad; bytes = s }

  abbrev after_it : Progress
  after_it = record { counts = r.counts; bad = r.bad; bytes = u }

  ending_is : r.ending ≡ (spelled_from b x.at first_target).ending
  unfolding read_from
  ending_is = ap (λ (e : Ended). e.ending) h ∙ ap (λ (z : Target). (spelled_from b x.at z).ending) t

  progress_is : after_it ≡ obey_all (spelled_from b x.at first_target).actions before_it
  unfolding read_from
  progress_is = ap (λ (e : Ended). e.progress) h ∙ ap (λ (z : Target). obey_all (spelled_from b x.at z).actions before_it) t

  by_ending : (room : ℕ) (e : Ending) → r.ending ≡ e
      → salvage_from b x.at room ≡ read_then (spelled_from b x.at first_target).actions (past_tear b (salvage_from b) room e)
  by_ending room e q = salvage_eq b x.at room ∙ ap (λ (y : Ending). read_then (spelled_from b x.at first_target).actions (past_tear b (salvage_from b) room y)) (sym ending_is ∙ q)

  going_is : (out : List ℕ) (n room : ℕ) (w : Salvage) → salvage_from b x.at room ≡ w → going_on b s out n room x ≡ salvaged_on w out n (obey_all w.actions before_it)
  unfolding going_on
  going_is out n room w e = ap (λ (w : Salvage). salvaged_on w out n (obey_all w.actions before_it)) e

  last_actions : obey_all ((spelled_from b x.at first_target).actions ++ []) before_it ≡ after_it
  last_actions = ap (λ (l : List Action). obey_all l before_it) (append-nil (spelled_from b x.at first_target).actions) ∙ sym progress_is

  pub went_end : (out : List ℕ) (n room : ℕ) → r.ending ≡ None
      → going_on b s out n room x ≡ record { refusal = 0; stretches = n; done = r.counts.done; refused = r.counts.refused; store = u; out = out }
  went_end out n room q = going_is out n room _ (by_ending room None q) ∙ plain_end [] out n _ after_it last_actions

  pub went_full : (out : List ℕ) (n room p : ℕ) → r.ending ≡ Some p → room ≡ 0
      → going_on b s out n room x ≡ record { refusal = 12; stretches = 0; done = 0; refused = 0; store = u; out = out }
  went_full out n room p q z =
      ap (λ (m : ℕ). going_on b s out n m x) z ∙ going_is out n 0 _ (by_ending 0 (Some p) q) ∙ plain_full [] out n _ after_it last_actions

  pub went_past : (out : List ℕ) (n room p : ℕ) → r.ending ≡ Some p → (n + suc room) * 16 ≤ length out
      → going_on b s out n (suc room) x
      ≡ going_on b u (with_bytes out (n * 16) (stretch_of p (restart_from b (p + 1) - p))) (n + 1) room (started_at (restart_from b (p + 1)) r.counts r.bad r.cursor)
  unfolding going_on
  went_past out n room p q l =
      let w = salvage_from b (restart_from b (p + 1)) room in
      going_is out n (suc room) _ (by_ending (suc room) (Some p) q)
      ∙ plain_on [] (record { first = p; size = restart_from b (p + 1) - p }) w out n _ (obey_all w.actions after_it)
      (obey_append (spelled_from b x.at first_target).actions w.actions before_it ∙ ap (obey_all w.actions) (sym progress_is))
      (omega (arith, few_stretches b (restart_from b (p + 1)) room))

-- the place of a 13, and the state behind the stretch
pub torn_at_lem : (n : ℕ) (k : CommandCounts) (e : Ending) (p : ℕ) → e ≡ Some p → EndsWithin n k e → (k.done + k.refused ≤ p) × (p < n)
unfolding EndsWithin
torn_at_lem n k e p q h = subst (EndsWithin n k) q h

pub started_under : (b u : List ℕ) (r : Stopped) (p : ℕ) → r.ending ≡ Some p → EndsWithin (length b) r.counts r.ending × Points u r.cursor
    → Underway (length b) u (started_at (restart_from b (p + 1)) r.counts r.bad r.cursor)
started_under b u r p q h =
    let w = torn_at_lem (length b) r.counts r.ending p q h.0 in
    let v = restart_within b (p + 1) (omega (arith, w.1)) in
    record { within = v.1; font = omega arith; code = omega arith; counts = omega (arith, w.0, v.0); points = h.1 }

-- the turn of the loop
pub went_on : (b s u out new : List ℕ) (n room p k : ℕ) (x y : State) (r : Stopped) → x.target ≡ first_target → ended_of r u ≡ read_on b s x
    → EndsWithin (length b) r.counts r.ending × Points u r.cursor → r.ending ≡ Some p → 0 < room → (n + room) * 16 ≤ length out → k ≡ restart_from b (p + 1)
    → new ≡ with_bytes out (n * 16) (stretch_of p (restart_from b (p + 1) - p)) → y ≡ started_at k r.counts r.bad r.cursor
    → Underway (length b) u y × (y.target ≡ first_target) × (going_on b u new (n + 1) (room - 1) y ≡ going_on b s out n room x)
went_on b s u out new n room p k x y r t h w q z l e f i =
    let m : suc (room - 1) ≡ room = omega arith in
    let j : y ≡ started_at (restart_from b (p + 1)) r.counts r.bad r.cursor = i ∙ ap (λ (a : ℕ). started_at a r.counts r.bad r.cursor) e in (
      subst (λ (a : State). Underway (length b) u a) (sym j) (started_under b u r p q w),
      ap (λ (a : State). a.target) j,
      ap₂ (λ (a : List ℕ) (c : State). going_on b u a (n + 1) (room - 1) c) f j ∙ sym (went_past b s u x r t h out n (room - 1) p q (omega arith)) ∙ ap (λ (a : ℕ). going_on b s out n a x) m,
    )

-- ── the whole
pub salvage_not : (b out s : List ℕ) → decode s ≡ none → salvaging b out s ≡ record { refusal = 1; stretches = 0; done = 0; refused = 0; store = s; out = out }
unfolding salvaging on_store
salvage_not b out s e = rw e

from_start : (x : Salvage) (out : List ℕ) (p : Progress) → salvaged_on x out 0 p ≡ salvaged_by x out p
unfolding with_bytes
from_start x out p = rw (zero-add (length x.stretches), zero-add (length (list_of x.stretches)))

pub salvage_store : (b out s : List ℕ) (st : Store) (x : State) → decode s ≡ some st → x.at ≡ 0 → x.counts ≡ none_counted → x.bad ≡ no_run
    → going_on b s out 0 (room_of (length out)) x ≡ salvaging b out s
unfolding salvaging on_store going_on
salvage_store b out s st x e a k r =
    rw (e, a, k, r, ← (salvage_whole b (room_of (length out))))
    (from_start (salvage_of b (room_of (length out))) out (obey_all (salvage_of b (room_of (length out))).actions (record { counts = none_counted; bad = no_run; bytes = s })))
