-- What becomes of a first block, by what the code has found out. Assumes nothing.
use mathlib.Core.Path.{◌≡◌, refl, sym, ap, ◌∙◌}
use Rattle.std.specs.Prelude.{Ok, Err}
use mathlib.Core.List.{List}
use mathlib.Core.Bool.{true}
use Prim.Native.Nat.{ℕ, ◌+◌, ◌-◌, ◌≤◌}
use native.Mathlib.Omega.{arith}
use lib.ListN.{length, take, drop, length-drop}
use lib.Seq.{take_all}
use lib.Dec.{leb}
use borrow.Author.Tests.{le-leb, leb-true}
use Rattle.blocks.specs.Header.{orientation, block_limit}
use Rattle.blocks.specs.Character.{class, width, height, character_length, kind_of, read_first, kept_first, descriptor_bytes}
use Rattle.pictures.specs.Size.{data_limit}
use Rattle.pictures.specs.Picture.{Judged, judge, kept_data}
use Rattle.blocks.specs.declared.character.Kind.TheVariants.{First}
use Rattle.pictures.specs.declared.picture.Held.TheVariants.{Whole, Unfinished}
use Rattle.std.specs.Prelude.{Some, None}
use Rattle.pictures.specs.Runs.{past_width}
use Rattle.pictures.proofs.Tests.{both}
use Rattle.blocks.proofs.KeptFirst.{first_long, kept_first_lem, kept_other}
use Rattle.pictures.proofs.KeptData.{complete_within, kept_complete, kept_incomplete, kept_length, held_whole, held_unfinished}
use Rattle.form.specs.Model.{held_of, held_under, is_kept}
use Rattle.form.specs.Checks.{on_store, finding}
use Rattle.store.specs.Answer.{After, refuse}
use Rattle.store.specs.Download.{refuse_run, within_width}
use Rattle.store.specs.Putting.{placed, receiving, receiving_first, putting_first}
use Rattle.form.specs.Walk.{Fitting, font_orientation}
use Rattle.form.specs.declared.walk.Places.{Places}
use Rattle.store.proofs.Host.{Host, fitting, host_orientation}

-- the fields that say what the data means are kept as they are
pub judged_kept : (b : List ℕ) → judge (class (kept_first b)) (width (kept_first b)) (height (kept_first b)) (drop descriptor_bytes b) ≡ judge (class b) (width b) (height b) (drop descriptor_bytes b)
judged_kept b = rw (kept_other b 3 tt tt tt tt, kept_other b 10 tt tt tt tt, kept_other b 11 tt tt tt tt, kept_other b 12 tt tt tt tt, kept_other b 13 tt tt tt tt)

pub block_short : (b : List ℕ) → character_length b ≡ true → (2 ≤ length b) × (length b ≤ block_limit)
unfolding character_length
block_short b e = let p = both (leb 2 (length b)) (leb (length b) block_limit) e in (leb-true _ _ p.0, leb-true _ _ p.1)

module _ (n c : ℕ) (b s : List ℕ) (w : Places) (x : Host n c s w) where
  first_call : putting_first n c b s ≡ receiving_first n c x.header b s x.ready.store
  unfolding putting_first on_store finding
  first_call = rw (x.ready.is, x.font_in)

  pub first_refused : (k : ℕ) → read_first b (font_orientation s w) ≡ Err k → putting_first n c b s ≡ refuse s k
  unfolding receiving_first
  first_refused k e = first_call ∙ rw (sym (ap (read_first b) (host_orientation n c s w x)) ∙ e)

  module _ (l : character_length b ≡ true) (f : kind_of b ≡ First) (e : read_first b (font_orientation s w) ≡ Ok tt) where
    read : read_first b (orientation x.header) ≡ Ok tt
    read = sym (ap (read_first b) (host_orientation n c s w x)) ∙ e

    pub first_data_lem : length (drop descriptor_bytes b) ≤ 32751
    first_data_lem = omega (arith, length-drop descriptor_bytes b, block_short b l)

    first_taken : putting_first n c b s ≡ receiving n c (kept_first b) (drop descriptor_bytes b) s x.ready.store
    unfolding receiving_first
    first_taken = first_call ∙ rw read

    kept_ok : (d : List ℕ) → is_kept (held_of (kept_first b) d) ≡ true → is_kept (held_under (orientation x.header) (kept_first b) d) ≡ true
    unfolding held_under
    kept_ok d q = rw (kept_first_lem b (orientation x.header) f read) q

    pub first_past : (row g r : ℕ) → judge (class b) (width b) (height b) (drop descriptor_bytes b) ≡ Err (past_width row g r) → putting_first n c b s ≡ refuse_run s row g r
    unfolding receiving
    first_past row g r q = first_taken ∙ rw (judged_kept b ∙ q)

    -- data that is kept so goes into the store
    first_kept : (j : Judged) (d : List ℕ) → judge (class (kept_first b)) (width (kept_first b)) (height (kept_first b)) (drop descriptor_bytes b) ≡ j → ((a : After) → within_width s j a ≡ a)
        → kept_data (class (kept_first b)) (width (kept_first b)) (height (kept_first b)) (drop descriptor_bytes b) ≡ d → length d ≤ data_limit → putting_first n c b s ≡ placed n c (kept_first b) d s
    unfolding receiving placed on_store
    first_kept j d q i k m = first_taken ∙ rw (q, i, k, le-leb (length d) data_limit m, x.ready.is)

    module _ (k : ℕ) (q : judge (class b) (width b) (height b) (drop descriptor_bytes b) ≡ Ok (Some k)) where
      whole : judge (class (kept_first b)) (width (kept_first b)) (height (kept_first b)) (drop descriptor_bytes b) ≡ Ok (Some k)
      whole = judged_kept b ∙ q

      pub complete_small : (k ≤ data_limit) × (descriptor_bytes + k ≤ length b)
      complete_small =
          let i = complete_within (class (kept_first b)) (width (kept_first b)) (height (kept_first b)) (drop descriptor_bytes b) k whole in
          (omega (arith, i, first_data_lem), omega (arith, i, length-drop descriptor_bytes b, first_long b (orientation x.header) read))

      kept_is : kept_data (class (kept_first b)) (width (kept_first b)) (height (kept_first b)) (drop descriptor_bytes b) ≡ take k (drop descriptor_bytes b)
      kept_is = kept_complete (class (kept_first b)) (width (kept_first b)) (height (kept_first b)) (drop descriptor_bytes b) k whole

      kept_few : length (kept_data (class (kept_first b)) (width (kept_first b)) (height (kept_first b)) (drop descriptor_bytes b)) ≤ data_limit
      kept_few = omega (arith, kept_length (class (kept_first b)) (width (kept_first b)) (height (kept_first b)) (drop descriptor_bytes b) k whole, complete_small)

      pub complete_held : held_of (kept_first b) (take k (drop descriptor_bytes b)) ≡ Whole
      complete_held = ap (held_of (kept_first b)) (sym kept_is) ∙ held_whole (class (kept_first b)) (width (kept_first b)) (height (kept_first b)) (drop descriptor_bytes b) k whole kept_few

      pub complete_fits : Fitting n c (kept_first b) (take k (drop descriptor_bytes b)) s w
      complete_fits = fitting n c s w x (kept_first b) (take k (drop descriptor_bytes b)) (kept_ok (take k (drop descriptor_bytes b)) (rw complete_held))

      pub first_complete : putting_first n c b s ≡ placed n c (kept_first b) (take k (drop descriptor_bytes b)) s
      first_complete = first_kept (Ok (Some k)) (take k (drop descriptor_bytes b)) whole (λ a. refl) kept_is (subst_few kept_is kept_few)
        where
          subst_few : {a d : List ℕ} → a ≡ d → length a ≤ data_limit → length d ≤ data_limit
          subst_few i m = omega (arith, ap length i)

    module _ (q : judge (class b) (width b) (height b) (drop descriptor_bytes b) ≡ Ok None) where
      part : judge (class (kept_first b)) (width (kept_first b)) (height (kept_first b)) (drop descriptor_bytes b) ≡ Ok None
      part = judged_kept b ∙ q

      all : take (length b - descriptor_bytes) (drop descriptor_bytes b) ≡ drop descriptor_bytes b
      all = take_all (length b - descriptor_bytes) (drop descriptor_bytes b) (simp length-drop (omega arith))

      data_is : kept_data (class (kept_first b)) (width (kept_first b)) (height (kept_first b)) (drop descriptor_bytes b) ≡ take (length b - descriptor_bytes) (drop descriptor_bytes b)
      data_is = kept_incomplete (class (kept_first b)) (width (kept_first b)) (height (kept_first b)) (drop descriptor_bytes b) part ∙ sym all

      pub incomplete_small : (length b - descriptor_bytes ≤ data_limit) × (descriptor_bytes + (length b - descriptor_bytes) ≤ length b)
      incomplete_small = (omega (arith, first_data_lem, length-drop descriptor_bytes b), omega (arith, first_long b (orientation x.header) read))

      data_few : length (kept_data (class (kept_first b)) (width (kept_first b)) (height (kept_first b)) (drop descriptor_bytes b)) ≤ data_limit
      data_few = omega (arith, ap length (data_is ∙ all), first_data_lem)

      pub incomplete_held : held_of (kept_first b) (take (length b - descriptor_bytes) (drop descriptor_bytes b)) ≡ Unfinished
      incomplete_held = ap (held_of (kept_first b)) (sym data_is) ∙ held_unfinished (class (kept_first b)) (width (kept_first b)) (height (kept_first b)) (drop descriptor_bytes b) part data_few

      pub incomplete_fits : Fitting n c (kept_first b) (take (length b - descriptor_bytes) (drop descriptor_bytes b)) s w
      incomplete_fits = fitting n c s w x (kept_first b) (take (length b - descriptor_bytes) (drop descriptor_bytes b)) (kept_ok (take (length b - descriptor_bytes) (drop descriptor_bytes b)) (rw incomplete_held))

      pub first_incomplete : putting_first n c b s ≡ placed n c (kept_first b) (take (length b - descriptor_bytes) (drop descriptor_bytes b)) s
      first_incomplete = first_kept (Ok None) (take (length b - descriptor_bytes) (drop descriptor_bytes b)) part (λ a. refl) data_is (omega (arith, ap length all, first_data_lem))
