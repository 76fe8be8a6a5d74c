-- W-212: a salvage reading, by what reading answers from each place on. Assumes nothing.
use Prim.Native.Nat.{ℕ, zero, suc, ◌+◌, ◌-◌, ◌≤◌, ◌<◌}
use mathlib.Core.Path.{◌≡◌, refl, sym, ap, ap₂, ◌∙◌, subst}
use mathlib.Core.Logic.{◌⊎◌, inl, inr}
use mathlib.Core.List.{List, [], ◌∷◌, ◌++◌, append-nil, append_assoc}
use mathlib.Core.Bool.{Bool, true, false, cond}
use mathlib.Core.Option.{some}
use native.Mathlib.Omega.{arith}
use borrow.Author.Tests.{leb-true, leb-false, le-leb}
use lib.Dec.{leb}
use lib.ListN.{length, get_or, take, drop, length-append, length-drop, length-take, take-append-drop}
use lib.Seq.{take_at, drop_at, drop-drop, drop-append-add}
use Rattle.form.specs.Num.{low_first}
use Rattle.form.specs.Model.{Store, decode}
use Rattle.form.specs.Records.{is_store}
use Rattle.form.proofs.Numbers.{length_le}
use Rattle.store.specs.Answer.{no_run}
use Rattle.store.specs.Calls.{onto}
use Rattle.stream.specs.Command.{command_at}
use Rattle.stream.specs.Reading.{Action, Spelled, spelled_from, first_target, Progress, none_counted, obey_all, read_from, end_answer, reading_of}
use Rattle.stream.specs.declared.command.Command.{Command}
use Rattle.stream.specs.declared.command.Command.TheVariants.{SetFont, SetCode, FontBlock, CharacterBlock, Broken, End}
use Rattle.stream.specs.Reading.{Ending}
use Rattle.std.specs.Prelude.{None, Some}
use Rattle.stream.proofs.Readings.{read_store, obeyed_made}
use Rattle.stream.proofs.Counts.{counted}
use Rattle.salvage.specs.Salvage.{restarts, restart_in, restart_from, Stretch, Salvage, past_tear, salvage_in, salvage_of, list_of, room_of, salvaged_by}
use Rattle.salvage.proofs.Seams.{later, shifted, read_behind}
use Rattle.salvage.proofs.Fronts.{read_before}
use Rattle.salvage.proofs.Onward.{Within, ending_within, obey_append}
use Rattle.salvage.proofs.Made.{salvage_is}
use Rattle.marlinfold.specs.Calls.{read_stream, Outcome, answered, of_reading, of_salvage, leaves}
use Rattle.marlinfold.specs.Torn.{Restart, FirstRestart, read_at, done_at, refused_at, torn_at, stretch_to, SalvagedFrom, to_the_end, list_full, tear_passed, full_later, SalvagedByReading, WholeSalvaged, Covered, whole_rest, then_stretch, StretchesCover, TornBetween}
use Rattle.marlinfold.proofs.Exactly.{stored}
use Rattle.marlinfold.proofs.Demand3.{held_counts}

-- ── the search
restart_true : (c : Command) → restarts c ≡ true → (n next : ℕ) × (c ≡ SetFont n next) × (n ≤ 32767)
restart_true (SetFont n e) q = (n, e, refl, leb-true n 32767 q)
restart_true (SetCode n e) q = let z : ◌≡◌ {A = ℕ} 0 1 = cc in absurd (omega arith)
restart_true (FontBlock f e) q = let z : ◌≡◌ {A = ℕ} 0 1 = cc in absurd (omega arith)
restart_true (CharacterBlock f e) q = let z : ◌≡◌ {A = ℕ} 0 1 = cc in absurd (omega arith)
restart_true Broken q = let z : ◌≡◌ {A = ℕ} 0 1 = cc in absurd (omega arith)
restart_true End q = let z : ◌≡◌ {A = ℕ} 0 1 = cc in absurd (omega arith)

true_restart : (b : List ℕ) (i : ℕ) → Restart b i → restarts (command_at b i) ≡ true
true_restart b i r = ap restarts r.2 ∙ le-leb r.0 32767 r.3

first_in : (k : ℕ) (b : List ℕ) (at : ℕ) → at + k ≡ length b → FirstRestart b at (restart_in k b at)
unfolding restart_in
first_in zero b at e = record { later = omega arith; inside = omega arith; here = inl refl; earlier = λ i l h r. absurd (omega arith) }
first_in (suc k) b at e = go (restarts (command_at b at)) refl (first_in k b (at + 1) (omega arith))
  where
    go : (t : Bool) → restarts (command_at b at) ≡ t → FirstRestart b (at + 1) (restart_in k b (at + 1)) → FirstRestart b at (cond t at (restart_in k b (at + 1)))
    go true q f = record { later = omega arith; inside = omega arith; here = inr (restart_true (command_at b at) q); earlier = λ i l h r. absurd (omega arith) }
    go false q f =
        record {
          later = omega (arith, f.later);
          inside = f.inside;
          here = f.here;
          earlier = λ i l h r. at_or_later i l h r (leb (at + 1) i) refl;
        }
      where
        at_or_later : (i : ℕ) → at ≤ i → i < restart_in k b (at + 1) → Restart b i → (t : Bool) → leb (at + 1) i ≡ t → ⊥
        at_or_later i l h r true z = f.earlier i (leb-true (at + 1) i z) h r
        at_or_later i l h r false z =
            let e : i ≡ at = omega (arith, leb-false (at + 1) i z) in
            let y : true ≡ false = sym (true_restart b at (subst (Restart b) e r)) ∙ q in
            let x : ◌≡◌ {A = ℕ} 0 1 = cc in absurd (omega arith)

first_restart : (b : List ℕ) (at : ℕ) → at ≤ length b → FirstRestart b at (restart_from b at)
unfolding restart_from
first_restart b at l = first_in (length b - at) b at (omega arith)

-- ── reading from a place on
abbrev fresh : List ℕ → Progress
fresh s = record { counts = none_counted; bad = no_run; bytes = s }

-- the rest of a stream is read as it is within the stream
rest_read : (b : List ℕ) (at : ℕ) → at ≤ length b → spelled_from b at first_target ≡ shifted at (spelled_from (drop at b) 0 first_target)
rest_read b at l =
    let n : length (take at b) ≡ at = omega (arith, length-take at b) in
    ap₂ (λ (x : List ℕ) (k : ℕ). spelled_from x k first_target) (sym (take-append-drop at b)) (sym n)
    ∙ read_behind (take at b) (drop at b) first_target
    ∙ ap (λ (k : ℕ). shifted k (spelled_from (drop at b) 0 first_target)) n

module _ (b : List ℕ) (at : ℕ) (s : List ℕ) (st : Store) (l : at ≤ length b) (d : decode s ≡ some st) where
  abbrev spelled_on : Spelled
  spelled_on = spelled_from b at first_target

  abbrev carried : Progress
  carried = obey_all spelled_on.actions (fresh s)

  read_is : read_at b at s ≡ of_reading (reading_of (record { ending = (spelled_from (drop at b) 0 first_target).ending; progress = carried }))
  unfolding read_from
  read_is =
      ap of_reading (read_store (drop at b) s st d)
      ∙ ap (λ (x : List Action). of_reading (reading_of (record { ending = (spelled_from (drop at b) 0 first_target).ending; progress = obey_all x (fresh s) }))) (sym (ap (λ (x : Spelled). x.actions) (rest_read b at l)))

  ends_later : spelled_on.ending ≡ later at (spelled_from (drop at b) 0 first_target).ending
  ends_later = ap (λ (x : Spelled). x.ending) (rest_read b at l)

  -- read to the end
  read_whole : spelled_on.ending ≡ None → ((read_at b at s).refusal ≡ 0) × (done_at b at s ≡ carried.counts.done) × (refused_at b at s ≡ carried.counts.refused) × ((read_at b at s).store ≡ carried.bytes)
  unfolding end_answer
  read_whole q = go (spelled_from (drop at b) 0 first_target).ending refl
    where
      go : (e : Ending) → (spelled_from (drop at b) 0 first_target).ending ≡ e
          → ((read_at b at s).refusal ≡ 0) × (done_at b at s ≡ carried.counts.done) × (refused_at b at s ≡ carried.counts.refused) × ((read_at b at s).store ≡ carried.bytes)
      go None z = let r = read_is ∙ ap (λ (e : Ending). of_reading (reading_of (record { ending = e; progress = carried }))) z in (
        ap (λ (o : Outcome). o.refusal) r,
        ap (λ (o : Outcome). get_or o.numbers 0 0) r,
        ap (λ (o : Outcome). get_or o.numbers 1 0) r,
        ap (λ (o : Outcome). o.store) r,
      )
      go (Some p) z = let y : later at (Some p) ≡ None = ap (later at) (sym z) ∙ sym ends_later ∙ q in let x : ◌≡◌ {A = ℕ} 0 1 = cc in absurd (omega arith)

  -- read up to a 13
  read_torn : (p : ℕ) → spelled_on.ending ≡ Some p
      → ((read_at b at s).refusal ≡ 13) × (done_at b at s ≡ carried.counts.done) × (refused_at b at s ≡ carried.counts.refused) × ((read_at b at s).store ≡ carried.bytes) × (torn_at b at s ≡ p)
  unfolding end_answer
  read_torn p q = go (spelled_from (drop at b) 0 first_target).ending refl
    where
      go : (e : Ending) → (spelled_from (drop at b) 0 first_target).ending ≡ e
          → ((read_at b at s).refusal ≡ 13) × (done_at b at s ≡ carried.counts.done) × (refused_at b at s ≡ carried.counts.refused) × ((read_at b at s).store ≡ carried.bytes) × (torn_at b at s ≡ p)
      go None z = let y : None ≡ Some p = ap (later at) (sym z) ∙ sym ends_later ∙ q in let x : ◌≡◌ {A = ℕ} 0 1 = cc in absurd (omega arith)
      go (Some i) z =
          let r = read_is ∙ ap (λ (e : Ending). of_reading (reading_of (record { ending = e; progress = carried }))) z in
          let y : Some (at + i) ≡ Some p = ap (later at) (sym z) ∙ sym ends_later ∙ q in
          let w : at + i ≡ p = cc in (
            ap (λ (o : Outcome). o.refusal) r,
            ap (λ (o : Outcome). get_or o.numbers 0 0) r,
            ap (λ (o : Outcome). get_or o.numbers 1 0) r,
            ap (λ (o : Outcome). o.store) r,
            ap (λ (o : Outcome). at + get_or o.numbers 2 0) r ∙ w,
          )

-- ── the list
stretch_onto : (p q : ℕ) (ts : List Stretch) (l : List ℕ) → onto (list_of (record { first = p; size = q - p } ∷ ts)) l ≡ stretch_to p q ++ onto (list_of ts) (drop 16 l)
unfolding list_of
stretch_onto p q ts l =
    let x = low_first 8 p in
    let y = low_first 8 (q - p) in
    let z = list_of ts in
    let n : length (x ++ (y ++ z)) ≡ 16 + length z = omega (arith, length-append x (y ++ z), length-append y z, length_le 8 p, length_le 8 (q - p)) in
    rw (n, ← (drop-drop (length z) 16 l), append_assoc x (y ++ z) (drop (length z) (drop 16 l)), append_assoc y z (drop (length z) (drop 16 l)), append_assoc x y (z ++ drop (length z) (drop 16 l)))

-- two lists of actions carried out, the second by itself
apart : (v : List Action) (x : Progress)
    → ((obey_all v x).counts.done ≡ x.counts.done + (obey_all v (fresh x.bytes)).counts.done)
    × ((obey_all v x).counts.refused ≡ x.counts.refused + (obey_all v (fresh x.bytes)).counts.refused) × ((obey_all v x).bytes ≡ (obey_all v (fresh x.bytes)).bytes)
apart v x =
    let c = counted v x in
    let f = counted v (fresh x.bytes) in
    (omega (arith, c.0, f.0), omega (arith, c.1, f.1), obeyed_made v x ∙ sym (obeyed_made v (fresh x.bytes)))

-- ── from a place on
module _ (b : List ℕ) (at : ℕ) (s l : List ℕ) (st : Store) (h : at ≤ length b) (d : decode s ≡ some st) where
  abbrev outcome_by : Salvage → Outcome
  outcome_by x = of_salvage (salvaged_by x l (obey_all x.actions (fresh s)))

  ended : (spelled_from b at first_target).ending ≡ None → SalvagedFrom b at s l (outcome_by (record { actions = (spelled_from b at first_target).actions ++ []; stretches = []; full = false }))
  unfolding list_of
  ended q =
      let r = read_whole b at s st h d q in
      rw (append-nil (spelled_from b at first_target).actions, ← r.1, ← r.2, ← r.3) (to_the_end at s l r.0)

  filled : (p : ℕ) → (spelled_from b at first_target).ending ≡ Some p → length l < 16
      → SalvagedFrom b at s l (outcome_by (record { actions = (spelled_from b at first_target).actions ++ []; stretches = []; full = true }))
  unfolding list_of
  filled p q f =
      let r = read_torn b at s st h d p q in
      rw (append-nil (spelled_from b at first_target).actions, ← r.3) (list_full at s l r.0 f)

  -- past a stretch up to q, and what comes after it
  onwards : (p q : ℕ) → (spelled_from b at first_target).ending ≡ Some p → 16 ≤ length l → FirstRestart b (p + 1) q → (full : Bool) (ts : List Stretch) (done refused : ℕ) (u : List ℕ)
      → SalvagedFrom b q (read_at b at s).store (drop 16 l)
      (answered (cond full 12 0) (cond full 0 (length ts) ∷ cond full 0 done ∷ cond full 0 refused ∷ []) u (onto (list_of ts) (drop 16 l)))
      → SalvagedFrom b at s l
      (answered (cond full 12 0) (cond full 0 (length ts + 1) ∷ cond full 0 (done_at b at s + done) ∷ cond full 0 (refused_at b at s + refused) ∷ []) u
      (onto (list_of (record { first = p; size = q - p } ∷ ts)) l))
  onwards p q e f w true ts done refused u x =
      let r = read_torn b at s st h d p e in
      let a : FirstRestart b (torn_at b at s + 1) q = rw r.4 w in
      rw (stretch_onto p q ts l, ← r.4) (full_later at s l _ u _ r.0 f a x)
  onwards p q e f w false ts done refused u x =
      let r = read_torn b at s st h d p e in
      let a : FirstRestart b (torn_at b at s + 1) q = rw r.4 w in
      rw (stretch_onto p q ts l, ← r.4) (tear_passed at s l _ (length ts) done refused u _ r.0 f a x)

  -- the whole of a turn, where what comes after it is known
  one_turn : (k room p : ℕ) → (spelled_from b at first_target).ending ≡ Some p → 16 ≤ length l → p < length b
      → let y : Salvage = salvage_in k b (restart_from b (p + 1)) room in
      let u : List ℕ = (read_at b at s).store in
      SalvagedFrom b (restart_from b (p + 1)) u (drop 16 l) (of_salvage (salvaged_by y (drop 16 l) (obey_all y.actions (fresh u))))
      → SalvagedFrom b at s l
      (outcome_by (record { actions = (spelled_from b at first_target).actions ++ y.actions; stretches = record { first = p; size = restart_from b (p + 1) - p } ∷ y.stretches; full = y.full }))
  one_turn k room p e f w x =
      let y = salvage_in k b (restart_from b (p + 1)) room in
      let r = read_torn b at s st h d p e in
      let z = apart y.actions (obey_all (spelled_from b at first_target).actions (fresh s)) in
      let n : suc (length y.stretches) ≡ length y.stretches + 1 = omega arith in
      let o = onwards p (restart_from b (p + 1)) e f (first_restart b (p + 1) (omega arith)) y.full y.stretches _ _ _ x in
      rw (n, obey_append (spelled_from b at first_target).actions y.actions (fresh s), z.0, z.1, z.2, ← r.1, ← r.2, ← r.3) o

from_place : (k : ℕ) (b : List ℕ) (at : ℕ) (s l : List ℕ) → length b - at < k → at ≤ length b → is_store s ≡ true
    → let x : Salvage = salvage_in k b at (room_of (length l)) in
    SalvagedFrom b at s l (of_salvage (salvaged_by x l (obey_all x.actions (fresh s))))
unfolding salvage_in
from_place zero b at s l n h i = absurd (omega arith)
from_place (suc k) b at s l n h i =
    let st = stored s i in
    by_end (spelled_from b at first_target).ending refl (ending_within b at first_target) (room_of (length l)) refl st.0 st.1
    (λ p u m w v j. from_place k b p u m (omega arith) w j)
  where
    by_end : (e : Ending) → (spelled_from b at first_target).ending ≡ e → Within (length b) at e → (room : ℕ) → room_of (length l) ≡ room → (st : Store) (d : decode s ≡ some st)
        → ((p : ℕ) (u m : List ℕ) → p ≤ length b → at < p → is_store u ≡ true
        → SalvagedFrom b p u m (of_salvage (salvaged_by (salvage_in k b p (room_of (length m))) m (obey_all (salvage_in k b p (room_of (length m))).actions (fresh u)))))
        → SalvagedFrom b at s l
        (outcome_by b at s l st h d (record { actions = (spelled_from b at first_target).actions ++ (past_tear b (salvage_in k b) room e).actions; stretches = (past_tear b (salvage_in k b) room e).stretches; full = (past_tear b (salvage_in k b) room e).full }))
    by_end None q w room z st d f = ended b at s l st h d q
    by_end (Some p) q w zero z st d f = filled b at s l st h d p q (omega arith)
    by_end (Some p) q w (suc room) z st d f =
        let m : room_of (length (drop 16 l)) ≡ room = omega (arith, length-drop 16 l) in
        let c = first_restart b (p + 1) (omega (arith, w.1)) in
        one_turn b at s l st h d k room p q (omega arith) w.1
        (rw (← m) (f (restart_from b (p + 1)) (read_at b at s).store (drop 16 l) c.inside (omega (arith, w.0, c.later)) ((held_counts (read_stream (drop at b)) s).0 i)))

pub salvaged_by_reading : SalvagedByReading
unfolding salvage_of
salvaged_by_reading b l s i =
    let st = stored s i in
    rw (salvage_is b l s st.0 st.1) (from_place (suc (length b)) b 0 s l (omega arith) (omega arith) i)

-- ── whole streams
when_whole : (b : List ℕ) (at : ℕ) (s l : List ℕ) (o : Outcome) → SalvagedFrom b at s l o → (read_at b at s).refusal ≡ 0
    → o ≡ answered 0 (0 ∷ done_at b at s ∷ refused_at b at s ∷ []) (read_at b at s).store l
when_whole b at s l o (to_the_end i t m e) z = refl
when_whole b at s l o (list_full i t m e f) z = absurd (omega arith)
when_whole b at s l o (tear_passed i t m q k n r u v e f g x) z = absurd (omega arith)
when_whole b at s l o (full_later i t m q u v e f g x) z = absurd (omega arith)

pub whole_salvaged : WholeSalvaged
whole_salvaged b l s i e = when_whole b 0 s l _ (salvaged_by_reading b l s i) e

-- ── whether and where reading stops does not depend on the store
same_ending : (b : List ℕ) (at : ℕ) (s t : List ℕ) → at ≤ length b → is_store s ≡ true → is_store t ≡ true
    → ((read_at b at s).refusal ≡ 0 → (read_at b at t).refusal ≡ 0) × ((read_at b at s).refusal ≡ 13 → ((read_at b at t).refusal ≡ 13) × (torn_at b at t ≡ torn_at b at s))
same_ending b at s t h i j = go (spelled_from b at first_target).ending refl
  where
    go : (e : Ending) → (spelled_from b at first_target).ending ≡ e
        → ((read_at b at s).refusal ≡ 0 → (read_at b at t).refusal ≡ 0) × ((read_at b at s).refusal ≡ 13 → ((read_at b at t).refusal ≡ 13) × (torn_at b at t ≡ torn_at b at s))
    go None q =
        let x = stored s i in
        let y = stored t j in
        (λ z. (read_whole b at t y.0 h y.1 q).0, λ z. absurd (omega (arith, (read_whole b at s x.0 h x.1 q).0)))
    go (Some p) q =
        let x = stored s i in
        let y = stored t j in
        let v = read_torn b at s x.0 h x.1 p q in
        let w = read_torn b at t y.0 h y.1 p q in
        (λ z. absurd (omega (arith, v.0)), λ z. (w.0, w.4 ∙ sym v.4))

-- ── the stretches cover what is not read
covers : (b : List ℕ) (at : ℕ) (s l : List ℕ) (o : Outcome) → SalvagedFrom b at s l o → at ≤ length b → is_store s ≡ true → o.refusal ≡ 0 → Covered b at (get_or o.numbers 0 0) o.out
covers b at s l o (to_the_end i t m e) h j z = whole_rest at l (λ v w. (same_ending b at s v h j w).0 e)
covers b at s l o (list_full i t m e f) h j z = absurd (omega arith)
covers b at s l o (tear_passed i t m q k n r u v e f g x) h j z =
    let p = torn_at b at s in
    let y : p + (q - p) ≡ q = omega (arith, g.later) in
    let a : length (stretch_to p q) ≡ 16 = omega (arith, length-append (low_first 8 p) (low_first 8 (q - p)), length_le 8 p, length_le 8 (q - p)) in
    then_stretch at k p (q - p) (stretch_to p q ++ v) (take_at (stretch_to p q) v 16 a) (omega arith) (omega (arith, g.later)) (omega (arith, y, g.inside)) (λ w c. (same_ending b at s w h j c).1 e)
    (rw (y, drop_at (stretch_to p q) v 16 a) (covers b q (read_at b at s).store (drop 16 l) _ x g.inside ((held_counts (read_stream (drop at b)) s).0 j) refl))
covers b at s l o (full_later i t m q u v e f g x) h j z = absurd (omega arith)

pub stretches_cover : StretchesCover
stretches_cover b l s i e = covers b 0 s l _ (salvaged_by_reading b l s i) (omega arith) i e

-- ── a tear between two whole streams
not_before : (b : List ℕ) (from q r : ℕ) → FirstRestart b from q → FirstRestart b from r → q < r → ⊥
not_before b from q r x y l = go x.here
  where
    go : (q ≡ length b) ⊎ Restart b q → ⊥
    go (inl e) = absurd (omega (arith, y.inside))
    go (inr e) = y.earlier q x.later l e

one_restart : (b : List ℕ) (from q r : ℕ) → FirstRestart b from q → FirstRestart b from r → q ≡ r
one_restart b from q r x y = go (leb q r) refl (leb r q) refl
  where
    go : (t : Bool) → leb q r ≡ t → (v : Bool) → leb r q ≡ v → q ≡ r
    go true e true f = omega (arith, leb-true q r e, leb-true r q f)
    go true e false f = absurd (not_before b from q r x y (leb-false r q f))
    go false e v f = absurd (not_before b from r q y x (leb-false q r e))

at_tear : (b : List ℕ) (at : ℕ) (s l : List ℕ) (o : Outcome) → SalvagedFrom b at s l o → (read_at b at s).refusal ≡ 13 → 16 ≤ length l → (q : ℕ) → FirstRestart b (torn_at b at s + 1) q
    → let u : List ℕ = (read_at b at s).store in
    (read_at b q u).refusal ≡ 0
    → o ≡ answered 0 (1 ∷ (done_at b at s + done_at b q u) ∷ (refused_at b at s + refused_at b q u) ∷ []) (read_at b q u).store (stretch_to (torn_at b at s) q ++ drop 16 l)
at_tear b at s l o (to_the_end i t m e) z h q g w = absurd (omega arith)
at_tear b at s l o (list_full i t m e f) z h q g w = absurd (omega arith)
at_tear b at s l o (tear_passed i t m r k n v u y e f a x) z h q g w =
    let j = one_restart b (torn_at b at s + 1) r q a g in
    let p = when_whole b q (read_at b at s).store (drop 16 l) _ (subst (λ (c : ℕ). SalvagedFrom b c (read_at b at s).store (drop 16 l) (answered 0 (k ∷ n ∷ v ∷ []) u y)) j x) w in
    ap (λ (c : ℕ). answered 0 ((k + 1) ∷ (done_at b at s + n) ∷ (refused_at b at s + v) ∷ []) u (stretch_to (torn_at b at s) c ++ y)) j
    ∙ ap (λ (c : Outcome). answered 0 ((get_or c.numbers 0 0 + 1) ∷ (done_at b at s + get_or c.numbers 1 0) ∷ (refused_at b at s + get_or c.numbers 2 0) ∷ []) c.store (stretch_to (torn_at b at s) q ++ c.out)) p
at_tear b at s l o (full_later i t m r u y e f a x) z h q g w =
    let j = one_restart b (torn_at b at s + 1) r q a g in
    let p = when_whole b q (read_at b at s).store (drop 16 l) _ (subst (λ (c : ℕ). SalvagedFrom b c (read_at b at s).store (drop 16 l) (answered 12 (0 ∷ 0 ∷ 0 ∷ []) u y)) j x) w in
    absurd (omega (arith, ap (λ (c : Outcome). c.refusal) p))

ends_whole : (b s : List ℕ) (st : Store) → decode s ≡ some st → (read_at b 0 s).refusal ≡ 0 → (spelled_from b 0 first_target).ending ≡ None
ends_whole b s st d e = go (spelled_from b 0 first_target).ending refl
  where
    go : (x : Ending) → (spelled_from b 0 first_target).ending ≡ x → x ≡ None
    go None q = refl
    go (Some p) q = absurd (omega (arith, (read_torn b 0 s st (omega arith) d p q).0))

pub torn_between : TornBetween
torn_between b x c l s i e k g f n =
    let st = stored s i in
    let a = ends_whole b s st.0 st.1 e in
    let w = read_before b (x ++ c) first_target k a in
    let r = read_torn (b ++ (x ++ c)) 0 s st.0 (omega arith) st.1 (length b) (ap (λ (y : Spelled). y.ending) w) in
    let v = read_whole b 0 s st.0 (omega arith) st.1 a in
    let y = ap (λ (y : Spelled). obey_all y.actions (fresh s)) w in
    let u : leaves (read_stream b) s ≡ (read_at (b ++ (x ++ c)) 0 s).store = v.3 ∙ sym (ap (λ (p : Progress). p.bytes) y) ∙ sym r.3 in
    let m : drop (length b + length x) (b ++ (x ++ c)) ≡ c = drop-append-add b (x ++ c) (length x) ∙ drop_at x c (length x) refl in
    let d : done_at b 0 s ≡ done_at (b ++ (x ++ c)) 0 s = v.1 ∙ sym (ap (λ (p : Progress). p.counts.done) y) ∙ sym r.1 in
    let z : refused_at b 0 s ≡ refused_at (b ++ (x ++ c)) 0 s = v.2 ∙ sym (ap (λ (p : Progress). p.counts.refused) y) ∙ sym r.2 in
    let o = at_tear (b ++ (x ++ c)) 0 s l _ (salvaged_by_reading (b ++ (x ++ c)) l s i) r.0 n (length b + length x) (rw r.4 g) (rw (m, ← u) f) in
    o ∙ rw (m, r.4, ← u, ← d, ← z)
