-- What the calls on characters leave, by what was found. Assumes nothing.
use mathlib.Core.Path.{◌≡◌, refl, sym, ap, ◌∙◌}
use mathlib.Core.List.{List, [], ◌++◌}
use Prim.Native.Nat.{ℕ, ◌+◌, ◌-◌, ◌≤◌}
use native.Mathlib.Omega.{arith}
use lib.ListN.{replicate}
use Rattle.form.specs.Layout.{key_of, mark_record}
use Rattle.form.specs.Model.{tally_of, run, encode, total}
use Rattle.form.specs.Order.{below}
use Rattle.change.specs.Change.{spliced_at, Recounting, recounted, unmarked_at}
use Rattle.store.specs.Calls.{closed_at, with_character, store_without_character}
use Rattle.form.specs.declared.walk.Places.{Places}
use Rattle.change.proofs.Puts.{put_nil}
use Rattle.store.proofs.Marks.{unmark_at}
use Rattle.store.proofs.Replaced.{no_char}
use Rattle.store.proofs.Changed.{small_mark, encode_changed, total_replaced, order_char, bytes_char, bytes_counted, recounting, uncounted}
use Rattle.form.proofs.Seeks.{KeptChar}

module _ (n c : ℕ) (s : List ℕ) (w : Places) (x : KeptChar n c s w) where
  lo : w.lo ≡ mark_record + total (below (key_of n 0) x.ready.store.recs)
  lo = ap (λ (y : Places). y.lo) x.ready.at

  at : w.from ≡ mark_record + total (below (key_of n (c + 1)) x.ready.store.recs)
  at = ap (λ (y : Places). y.from) x.ready.at

  to : w.to ≡ mark_record + total (below (key_of n (c + 1) + 1) x.ready.store.recs)
  to = ap (λ (y : Places). y.to) x.ready.at

  fits : mark_record + total (with_character n c [] x.ready.store.recs) ≤ x.ready.store.size
  unfolding total
  fits =
      let r = x.ready in
      let us : w.used ≡ mark_record + total r.store.recs = ap (λ (y : Places). y.used) r.at in
      omega (arith, total_replaced (key_of n (c + 1)) (key_of n (c + 1) + 1) [] r.store.recs r.valid.order (omega arith), r.room, r.size)

  -- the records without it, its font's numbers as they were
  cut_bytes : spliced_at w.from (w.to - w.from) w.used 0 s ≡ uncounted n c [] x.ready.store
  unfolding run total
  cut_bytes =
      let r = x.ready in
      let st = r.store in
      let us : w.used ≡ mark_record + total st.recs = ap (λ (y : Places). y.used) r.at in
      rw (at, to, us, r.bytes) (sym (put_nil _ (mark_record + total (below (key_of n (c + 1)) st.recs))) ∙ bytes_char n c x.header [] st r.valid x.code x.font_there no_char fits refl)

  pub cut_ready : Recounting (spliced_at w.from (w.to - w.from) w.used 0 s) w.lo (w.to - w.from) 0
  unfolding total
  cut_ready = rw cut_bytes (rw (lo, at, to) (recounting n c x.header [] x.ready.store x.ready.valid x.code x.font_there no_char fits))

  pub cut_done : unmarked_at n c (recounted w.lo (w.to - w.from) 0 (spliced_at w.from (w.to - w.from) w.used 0 s)) ≡ encode (store_without_character n c x.ready.store)
  unfolding total
  cut_done =
      let st = x.ready.store in
      let rs = with_character n c [] st.recs in
      let T : List ℕ = run (tally_of rs) rs ++ replicate (st.size - (mark_record + total rs)) 0 in
      let o = order_char n c x.header [] st x.ready.valid x.code x.font_there no_char fits in
      ap (λ (y : List ℕ). unmarked_at n c (recounted w.lo (w.to - w.from) 0 y)) cut_bytes
      ∙ rw (lo, at, to) (ap (unmarked_at n c) (bytes_counted n c x.header [] st x.ready.valid x.code x.font_there no_char fits))
      ∙ unmark_at n c st.mark T (small_mark st x.ready.valid) ∙ sym (encode_changed (closed_at n c st.mark) rs st o)
