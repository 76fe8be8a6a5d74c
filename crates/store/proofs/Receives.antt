-- What becomes of a character block, by its length, its font and its kind. Assumes nothing.
use mathlib.Core.Path.{◌≡◌, ap}
use mathlib.Core.List.{List}
use mathlib.Core.Bool.{true, false}
use mathlib.Core.Option.{none}
use Prim.Native.Nat.{ℕ, ◌+◌, ◌<◌, ◌≤◌}
use native.Mathlib.Omega.{arith}
use lib.Dec.{leb}
use borrow.Author.Tests.{leb-true}
use Rattle.blocks.specs.Character.{character_length, kind_of}
use Rattle.blocks.specs.declared.character.Kind.TheVariants.{First, Continuation, Unknown}
use Rattle.pictures.proofs.Tests.{both}
use Rattle.form.specs.Layout.{last_code, last_font}
use Rattle.form.specs.Model.{decode}
use Rattle.form.specs.Checks.{on_store, finding, numbered}
use Rattle.store.specs.Answer.{refuse}
use Rattle.store.specs.Download.{downloading_character}
use Rattle.store.specs.Putting.{placing, receiving, receiving_first, putting_first, receiving_more, putting_more, receiving_block, putting_block}
use Rattle.form.specs.declared.walk.Places.{Places}
use Rattle.form.proofs.Ready.{Ready, font_there, font_missing}
use Rattle.store.proofs.Host.{Host}

-- ── a block, by its length, its font and its kind
module _ (n c : ℕ) (b s : List ℕ) (w : Places) (r : Ready n (c + 1) s w) where
  pub block_length : character_length b ≡ false → putting_block n c b s ≡ refuse s 3
  unfolding putting_block on_store
  block_length e = rw (r.is, e)

  pub block_no_font : character_length b ≡ true → w.hi ≤ w.lo → putting_block n c b s ≡ refuse s 6
  unfolding putting_block on_store finding
  block_no_font e l = rw (r.is, e, font_missing n r.store.recs r.valid.order (omega (arith, ap (λ (x : Places). x.lo) r.at, ap (λ (x : Places). x.hi) r.at)))

pub block_host : (n c : ℕ) (s : List ℕ) (w : Places) → Ready n (c + 1) s w → n ≤ last_font → c ≤ last_code → w.lo < w.hi → Host n c s w
block_host n c s w r a d l =
    let f = font_there n r.store.recs r.valid.order (omega (arith, ap (λ (x : Places). x.lo) r.at, ap (λ (x : Places). x.hi) r.at)) in
    record { ready = r; low = a; code = d; header = f.0; font_in = f.1 }

module _ (n c : ℕ) (b s : List ℕ) (w : Places) (x : Host n c s w) (e : character_length b ≡ true) where
  pub block_unknown : kind_of b ≡ Unknown → putting_block n c b s ≡ refuse s 4
  unfolding putting_block receiving_block on_store finding
  block_unknown k = rw (x.ready.is, e, x.font_in, k)

  pub block_first : kind_of b ≡ First → putting_block n c b s ≡ putting_first n c b s
  unfolding putting_block receiving_block putting_first receiving_first on_store finding
  block_first k = rw (x.ready.is, e, x.font_in, k)

  pub block_more : kind_of b ≡ Continuation → putting_block n c b s ≡ putting_more n c b s
  unfolding putting_block receiving_block putting_more receiving_more on_store finding
  block_more k = rw (x.ready.is, e, x.font_in, k)

-- ── the whole call
module _ (n c : ℕ) (b s : List ℕ) where
  pub download_not : decode s ≡ none → downloading_character n c b s ≡ refuse s 1
  unfolding downloading_character on_store
  download_not e = rw e

  pub download_range : (w : Places) → Ready n (c + 1) s w → numbered n c ≡ false → downloading_character n c b s ≡ refuse s 2
  unfolding downloading_character on_store
  download_range w r e = rw (r.is, e)

  pub download_block : (w : Places) → Ready n (c + 1) s w → numbered n c ≡ true → downloading_character n c b s ≡ putting_block n c b s
  unfolding downloading_character putting_block receiving_block receiving placing on_store
  download_block w r e = rw (r.is, e)

pub in_range_lem : (n c : ℕ) → numbered n c ≡ true → (n ≤ last_font) × (c ≤ last_code)
in_range_lem n c e = let p = both (leb n last_font) (leb c last_code) e in (leb-true _ _ p.0, leb-true _ _ p.1)
