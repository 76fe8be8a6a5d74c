-- Laws of the call's refusals. Assumes nothing.
use Prim.Native.Nat.{ℕ, ◌<◌, ◌≤◌}
use mathlib.Core.Path.{◌≡◌, refl, sym, ◌∙◌}
use mathlib.Core.List.{List, ◌++◌}
use mathlib.Core.Bool.{Bool, true, false, ◌&&◌}
use native.Mathlib.Omega.{arith}
use borrow.Author.Tests.{leb-true, leb-false, le-leb, lt-leb}
use lib.Dec.{leb}
use lib.ListN.{length, drop}
use Rattle.pictures.specs.Size.{within, side_limit, picture_size}
use Rattle.pictures.proofs.Tests.{both}
use Rattle.turning.specs.Turn.{turned, turned_size, is_picture, turnable, turning_picture}
use Rattle.turning.specs.Quarters.{quarters}
use Rattle.turning.specs.declared.turn.Turn.{Turn}
use Rattle.turning.specs.declared.turn.Turn.TheVariants.{Quarter, Half, ThreeQuarters}

-- what a picture of so many bytes that can be turned is
pub record Good (t w h size : ℕ) : Type 0 where
  pub turn_low : 1 ≤ t
  pub turn_high : t ≤ 3
  pub wide : 1 ≤ w
  pub narrow : w ≤ side_limit
  pub high : 1 ≤ h
  pub low : h ≤ side_limit
  pub enough : picture_size w h ≤ size

between : (low up n : ℕ) → within low up n ≡ true → (low ≤ n) × (n ≤ up)
between low up n e = let s = both (leb low n) (leb n up) e in (leb-true low n s.0, leb-true n up s.1)

pub good : (t w h size : ℕ) → turnable t w h size ≡ true → Good t w h size
unfolding turnable
good t w h size p =
    let a = both (within 1 3 t) (within 1 side_limit w && (within 1 side_limit h && leb (picture_size w h) size)) p in
    let b = both (within 1 side_limit w) (within 1 side_limit h && leb (picture_size w h) size) a.1 in
    let d = both (within 1 side_limit h) (leb (picture_size w h) size) b.1 in
    record {
      turn_low = (between 1 3 t a.0).0;
      turn_high = (between 1 3 t a.0).1;
      wide = (between 1 side_limit w b.0).0;
      narrow = (between 1 side_limit w b.0).1;
      high = (between 1 side_limit h d.0).0;
      low = (between 1 side_limit h d.0).1;
      enough = leb-true (picture_size w h) size d.1;
    }

-- a turn and a picture
pub no_turn : (t w h size : ℕ) → within 1 3 t ≡ false → turnable t w h size ≡ false
unfolding turnable
no_turn t w h size e = rw e

pub no_picture : (t w h size : ℕ) → is_picture w h size ≡ false → turnable t w h size ≡ false
unfolding turnable
no_picture t w h size e = rw e (none (within 1 3 t))
  where
    none : (b : Bool) → (b && false) ≡ false
    none true = refl
    none false = refl

pub turns : (turn : Turn) (t w h size : ℕ) → quarters turn ≡ t → is_picture w h size ≡ true → turnable t w h size ≡ true
unfolding turnable
turns turn t w h size q e = rw (e, ← q) (one turn)
  where
    one : (turn : Turn) → (within 1 3 (quarters turn) && true) ≡ true
    one Quarter = refl
    one Half = refl
    one ThreeQuarters = refl

module _ (t w h : ℕ) (s out : List ℕ) where
  pub turn_refused : turnable t w h (length s) ≡ false → (2 ≡ (turning_picture t w h s out).answer) × (out ≡ (turning_picture t w h s out).bytes)
  unfolding turning_picture
  turn_refused p = (rw p, rw p)

  pub turn_short : turnable t w h (length s) ≡ true → length out < turned_size t w h → (12 ≡ (turning_picture t w h s out).answer) × (out ≡ (turning_picture t w h s out).bytes)
  unfolding turning_picture
  turn_short p l = let q : leb (turned_size t w h) (length out) ≡ false = lt-leb (turned_size t w h) (length out) l in (rw (p, q), rw (p, q))

  pub turn_done : turnable t w h (length s) ≡ true → turned_size t w h ≤ length out → (out' : List ℕ) → out' ≡ turned t w h s ++ drop (turned_size t w h) out
      → (0 ≡ (turning_picture t w h s out).answer) × (out' ≡ (turning_picture t w h s out).bytes)
  unfolding turning_picture
  turn_done p l out' e = let q : leb (turned_size t w h) (length out) ≡ true = le-leb (turned_size t w h) (length out) l in (rw (p, q), rw (p, q) e)

  -- a call that is done
  pub was_done : (turning_picture t w h s out).answer ≡ 0
      → (Good t w h (length s)) × ((turning_picture t w h s out).bytes ≡ turned t w h s ++ drop (turned_size t w h) out)
  was_done e = go (turnable t w h (length s)) refl (leb (turned_size t w h) (length out)) refl
    where
      go : (a : Bool) → turnable t w h (length s) ≡ a → (b : Bool) → leb (turned_size t w h) (length out) ≡ b
          → (Good t w h (length s)) × ((turning_picture t w h s out).bytes ≡ turned t w h s ++ drop (turned_size t w h) out)
      go true p true q = (good t w h (length s) p, sym (turn_done p (leb-true (turned_size t w h) (length out) q) (turned t w h s ++ drop (turned_size t w h) out) refl).1)
      go true p false q = let z : ◌≡◌ {A = ℕ} 12 0 = (turn_short p (leb-false (turned_size t w h) (length out) q)).0 ∙ e in absurd (omega arith)
      go false p b q = let z : ◌≡◌ {A = ℕ} 2 0 = (turn_refused p).0 ∙ e in absurd (omega arith)
