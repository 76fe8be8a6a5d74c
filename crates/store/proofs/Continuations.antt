-- What becomes of a continuation, by what the code has found out. Assumes nothing.
use mathlib.Core.Path.{◌≡◌, refl, sym, ap, ◌∙◌}
use mathlib.Core.List.{List, [], ◌∷◌, ◌++◌}
use mathlib.Core.Bool.{Bool, true, false, ◌||◌}
use mathlib.Core.Option.{none, some}
use mathlib.Core.Logic.{⊎_elim}
use Prim.Native.Nat.{ℕ, ◌+◌, ◌-◌, ◌<◌, ◌≤◌}
use native.Mathlib.Omega.{arith}
use lib.ListN.{length, take, drop, length-append, length-drop, take-append-drop}
use lib.Seq.{take_all, take-append-add, take-append-le}
use lib.Dec.{eqb, leb}
use borrow.Author.Tests.{eqb-true, eqb-false, eq-eqb, ne_eqb, le-leb, lt-leb}
use Rattle.blocks.specs.Header.{orientation}
use Rattle.blocks.specs.Character.{class, width, height, is_kept_first, descriptor_bytes, continuation_bytes}
use Rattle.pictures.specs.Size.{data_limit}
use Rattle.pictures.specs.Picture.{Judged, judge, kept_data}
use Rattle.pictures.specs.declared.picture.Held.{Held}
use Rattle.pictures.specs.declared.picture.Held.TheVariants.{Whole, Unfinished, Foreign}
use Rattle.std.specs.Prelude.{Some, None, Ok, Err}
use Rattle.pictures.specs.Runs.{past_width}
use Rattle.pictures.proofs.KeptData.{complete_within, kept_complete, kept_incomplete, kept_judged, held_whole, held_unfinished, unfinished_judged, incomplete_prefix}
use Rattle.form.specs.Layout.{key_of, character_kept_at, character_record, mark_code_at, mark_font_at, mark_on_at}
use Rattle.form.specs.Num.{◌and◌, field}
use Rattle.form.specs.Model.{Rec, character, Owner, owner_after, no_owner, sorted, held_of, held_under, is_kept, is_unfinished, unfinished, opened, mark_ok, mark_in, key}
use Rattle.form.specs.Order.{find_record}
use Rattle.form.specs.Checks.{on_store, checked, finding}
use Rattle.store.specs.Answer.{After, refuse}
use Rattle.store.specs.Download.{names, refuse_run, within_width}
use Rattle.store.specs.Putting.{placing, placed, receiving, receiving_more, putting_more}
use Rattle.form.specs.Walk.{Growing, Continued, kept_at, data_at}
use Rattle.form.specs.declared.walk.Places.{Places}
use Rattle.form.proofs.Numbers.{both_l, both_r, less_or}
use Rattle.form.proofs.Codec.{Sorted, sorted_inv, mark_fits, mark_back, encode_parts}
use Rattle.form.proofs.Lookup.{find_here, find_other, find_behind, found, char_at, kept_under}
use Rattle.store.proofs.Marks.{Shut, Open, mark_key, mark_inv}
use Rattle.form.proofs.Ready.{Ready}
use Rattle.form.proofs.Seeks.{KeptChar}
use Rattle.store.proofs.Spots.{char_span, char_kept, char_bytes}
use Rattle.store.proofs.Host.{Host, fitting}

-- ── the open character
opened_found : (k j : ℕ) (u : Owner) (rs : List Rec) → sorted j u rs ≡ true → opened k rs ≡ true → (r : Rec) × (find_record k rs ≡ some r) × (unfinished r ≡ true)
unfolding opened
opened_found k j u [] e q = let z : ◌≡◌ {A = ℕ} 0 1 = cc in absurd (omega arith)
opened_found k j u (r ∷ rs) e q =
    let w = sorted_inv j u r rs e in
    go (eqb (key r) k) refl (unfinished r) refl q (opened_found k (key r + 1) (owner_after u r) rs w.rest) w
  where
    go : (a : Bool) → eqb (key r) k ≡ a → (b : Bool) → unfinished r ≡ b → (a and b || opened k rs) ≡ true → (opened k rs ≡ true → (t : Rec) × (find_record k rs ≡ some t) × (unfinished t ≡ true)) → Sorted j u r rs
        → (t : Rec) × (find_record k (r ∷ rs) ≡ some t) × (unfinished t ≡ true)
    go true p true v q ih w = (r, find_here k r rs (eqb-true _ _ p), v)
    go true p false v q ih w =
        let i = ih (unfold ◌and◌ in q) in
        let l : key r ≡ k = eqb-true _ _ p in
        let z : none ≡ some i.0 = sym (find_behind k (key r + 1) (owner_after u r) rs w.rest (omega arith)) ∙ i.1 in
        let y : ◌≡◌ {A = ℕ} 0 1 = cc in absurd (omega arith)
    go false p b v q ih w = let i = ih (unfold ◌and◌ in q) in (i.0, find_other k r rs (eqb-false _ _ p) ∙ i.1, i.2)

complete_not : (k row f r : ℕ) → ◌≡◌ {A = Judged} (Ok (Some k)) (Err (past_width row f r)) → ⊥
complete_not k row f r e = let z : ◌≡◌ {A = ℕ} 0 1 = cc in omega arith

complete_open : (k : ℕ) → ◌≡◌ {A = Judged} (Ok (Some k)) (Ok None) → ⊥
complete_open k e = let z : ◌≡◌ {A = ℕ} 0 1 = cc in omega arith

is_unfinished_lem : (x : Held) → is_unfinished x ≡ true → x ≡ Unfinished
is_unfinished_lem Whole e = let z : ◌≡◌ {A = ℕ} 0 1 = cc in absurd (omega arith)
is_unfinished_lem Unfinished e = refl
is_unfinished_lem Foreign e = let z : ◌≡◌ {A = ℕ} 0 1 = cc in absurd (omega arith)

pub mark_is : (n p : ℕ) (s : List ℕ) (w : Places) (r : Ready n p s w) → mark_in s ≡ r.store.mark
mark_is n p s w r =
    let st = r.store in
    let f = mark_fits st.mark st.recs r.valid.marked in
    ap mark_in (r.bytes ∙ encode_parts st) ∙ mark_back st.mark _ f.0 f.1 f.2

-- the open character at its places
pub record Opened (n c : ℕ) (s : List ℕ) (w : Places) (x : Host n c s w) : Type 0 where
  pub there : find_record (key_of n (c + 1)) x.ready.store.recs ≡ some (character n c (kept_at s w) (data_at s w))
  pub held : held_of (kept_at s w) (data_at s w) ≡ Unfinished
  pub kept : is_kept_first (kept_at s w) (orientation x.header) ≡ true
  pub span : w.to ≡ w.from + character_record + length (data_at s w)

module _ (n c : ℕ) (s : List ℕ) (w : Places) (x : Host n c s w) where
  opened_char : (h d : List ℕ) → find_record (key_of n (c + 1)) x.ready.store.recs ≡ some (character n c h d) → is_unfinished (held_of h d) ≡ true → Opened n c s w x
  opened_char h d e q =
      let k : KeptChar n c s w = record { ready = x.ready; low = x.low; code = x.code; header = x.header; font_there = x.font_in; kept = h; bytes = d; there = e } in
      let sp : w.to ≡ w.from + character_record + length d = char_span n c s w k in
      let i : kept_at s w ≡ h = char_kept n c s w k in
      let m : w.to - (w.from + character_record) ≡ length d = omega (arith, sp) in
      let j : data_at s w ≡ d = ap (λ (y : ℕ). take y (drop (w.from + character_record) s)) m ∙ char_bytes n c s w k in
      record {
        there = e ∙ ap (λ (y : Rec). some y) (ap (λ (y : List ℕ). character n c y d) (sym i) ∙ ap (λ (y : List ℕ). character n c (kept_at s w) y) (sym j));
        held = ap (λ (y : List ℕ). held_of y (data_at s w)) i ∙ ap (held_of h) j ∙ is_unfinished_lem (held_of h d) q;
        kept = ap (λ (y : List ℕ). is_kept_first y (orientation x.header)) i ∙ kept_under n c x.header h d x.ready.store.recs x.ready.valid.order x.code x.font_in e;
        span = omega (arith, sp, ap length j);
      }

  pub opened_there : names n c (mark_in s) ≡ true → Opened n c s w x
  opened_there q =
      let r = x.ready in
      let m = mark_is n (c + 1) s w r in
      let e1 = both_r (eqb (field 2 mark_on_at s) 1) (eqb (field 2 mark_font_at s) n and eqb (field 2 mark_code_at s) c) q in
      let on : field 2 mark_on_at s ≡ 1 = eqb-true _ _ (both_l (eqb (field 2 mark_on_at s) 1) (eqb (field 2 mark_font_at s) n and eqb (field 2 mark_code_at s) c) q) in
      let fo : field 2 mark_font_at s ≡ n = eqb-true _ _ (both_l (eqb (field 2 mark_font_at s) n) (eqb (field 2 mark_code_at s) c) e1) in
      let co : field 2 mark_code_at s ≡ c = eqb-true _ _ (both_r (eqb (field 2 mark_font_at s) n) (eqb (field 2 mark_code_at s) c) e1) in
      let ok : mark_ok (mark_in s) r.store.recs ≡ true = rw m r.valid.marked in
      let op : opened (key_of n (c + 1)) r.store.recs ≡ true =
      ⊎_elim (λ (h : Shut (mark_in s)). absurd (omega (arith, h.on)))
      (λ (h : Open (mark_in s) × (opened (mark_key (mark_in s)) r.store.recs ≡ true)). rw (fo, co) at h.1) (mark_inv (mark_in s) r.store.recs ok) in
      let f = opened_found (key_of n (c + 1)) 0 no_owner r.store.recs r.valid.order op in
      let g = found (key_of n (c + 1)) 0 no_owner f.0 r.store.recs r.valid.order f.1 in
      let y = char_at n c _ f.0 x.code g.ok g.is in
      opened_char y.0 y.1 (f.1 ∙ ap some y.2) (unfinished_is y.0 y.1 f.0 y.2 f.2)
    where
      unfinished_is : (h d : List ℕ) (r : Rec) → r ≡ character n c h d → unfinished r ≡ true → is_unfinished (held_of h d) ≡ true
      unfinished_is h d r i q = unfold unfinished in (rw i at q)

-- ── what is kept with a continuation
module _ (n c : ℕ) (b s : List ℕ) (w : Places) (x : Host n c s w) where
  abbrev joined : Judged
  joined = judge (class (kept_at s w)) (width (kept_at s w)) (height (kept_at s w)) (data_at s w ++ drop continuation_bytes b)

  -- as the code cuts the descriptor and the data out of the store
  pub joined_at : judge (class (take (w.from + character_record - (w.from + character_kept_at)) (drop (w.from + character_kept_at) s))) (width (take (w.from + character_record - (w.from + character_kept_at)) (drop (w.from + character_kept_at) s))) (height (take (w.from + character_record - (w.from + character_kept_at)) (drop (w.from + character_kept_at) s))) (data_at s w ++ drop continuation_bytes b) ≡ joined
  joined_at = let i : w.from + character_record - (w.from + character_kept_at) ≡ descriptor_bytes = omega arith in ap (λ (y : ℕ). judge (class (take y (drop (w.from + character_kept_at) s))) (width (take y (drop (w.from + character_kept_at) s))) (height (take y (drop (w.from + character_kept_at) s))) (data_at s w ++ drop continuation_bytes b)) i

  pub more_not : names n c (mark_in s) ≡ false → putting_more n c b s ≡ refuse s 7
  unfolding putting_more receiving_more on_store
  more_not q = rw (x.ready.is, ← (mark_is n (c + 1) s w x.ready), q)

  module _ (q : names n c (mark_in s) ≡ true) where
    more_call : putting_more n c b s ≡ receiving n c (kept_at s w) (data_at s w ++ drop continuation_bytes b) s x.ready.store
    unfolding putting_more receiving_more on_store finding
    more_call = rw (x.ready.is, ← (mark_is n (c + 1) s w x.ready), q, (opened_there n c s w x q).there)

    pub more_past : (row f r : ℕ) → joined ≡ Err (past_width row f r) → putting_more n c b s ≡ refuse_run s row f r
    unfolding receiving
    more_past row f r e = more_call ∙ rw e

    -- a completing continuation completes behind what was kept
    pub more_within : (k : ℕ) → joined ≡ Ok (Some k) → (length (data_at s w) ≤ k) × (k ≤ length (data_at s w) + length (drop continuation_bytes b))
    more_within k e =
        let C = class (kept_at s w) in
        let W = width (kept_at s w) in
        let H = height (kept_at s w) in
        let d = data_at s w in
        let m = drop continuation_bytes b in
        let o = opened_there n c s w x q in
        let j : judge C W H d ≡ Ok None = (unfinished_judged C W H d o.held).0 in
        let u : k ≤ length d + length m = omega (arith, complete_within C W H (d ++ m) k e, length-append d m) in (
          ⊎_elim (λ (l : k < length d).
              let a : kept_data C W H (d ++ m) ≡ take k d = kept_complete C W H (d ++ m) k e ∙ take-append-le k d m (omega arith) in
              let y : judge C W H (take k d) ≡ Ok (Some k) = ap (judge C W H) (sym a) ∙ kept_judged C W H (d ++ m) (λ row f r z. complete_not k row f r (sym e ∙ z)) ∙ e in
              let z : judge C W H (take k d) ≡ Ok None = incomplete_prefix C W H (take k d) (drop k d) (ap (judge C W H) (take-append-drop k d) ∙ j) in
              absurd (complete_open k (sym y ∙ z))) (λ (l : length d ≤ k). l) (less_or k (length d)),
          u,
        )

    -- what is kept: the data, and so many bytes of the continuation
    module _ (m : ℕ) (marked : Bool) (y : Continued s w b m marked) where
      kept_more : (t : Bool) → Continued s w b m t → kept_data (class (kept_at s w)) (width (kept_at s w)) (height (kept_at s w)) (data_at s w ++ drop continuation_bytes b) ≡ data_at s w ++ take m (drop continuation_bytes b)
      kept_more true z =
          kept_incomplete (class (kept_at s w)) (width (kept_at s w)) (height (kept_at s w)) (data_at s w ++ drop continuation_bytes b) z.0
          ∙ ap (λ (l : List ℕ). data_at s w ++ l) (sym (take_all m (drop continuation_bytes b) (omega (arith, z.1, length-drop continuation_bytes b))))
      kept_more false z =
          kept_complete (class (kept_at s w)) (width (kept_at s w)) (height (kept_at s w)) (data_at s w ++ drop continuation_bytes b) (length (data_at s w) + m) z ∙ take-append-add (data_at s w) (drop continuation_bytes b) m

      within : (t : Bool) → Continued s w b m t → (a : After) → within_width s joined a ≡ a
      within true z a = rw z.0
      within false z a = rw z

      more_kept : putting_more n c b s ≡ checked (refuse s) (leb (length (data_at s w ++ take m (drop continuation_bytes b))) data_limit) 9 (placing n c (kept_at s w) (data_at s w ++ take m (drop continuation_bytes b)) x.ready.store)
      unfolding receiving
      more_kept = more_call ∙ rw (kept_more marked y, within marked y)

      pub more_large : data_limit < length (data_at s w) + length (take m (drop continuation_bytes b)) → putting_more n c b s ≡ refuse s 9
      more_large l = more_kept ∙ rw (lt-leb (length (data_at s w ++ take m (drop continuation_bytes b))) data_limit (omega (arith, length-append (data_at s w) (take m (drop continuation_bytes b)))))

      module _ (l : length (data_at s w) + length (take m (drop continuation_bytes b)) ≤ data_limit) where
        few : length (kept_data (class (kept_at s w)) (width (kept_at s w)) (height (kept_at s w)) (data_at s w ++ drop continuation_bytes b)) ≤ data_limit
        few = omega (arith, ap length (kept_more marked y), length-append (data_at s w) (take m (drop continuation_bytes b)))

        abbrev held_by : Bool → Held
        held_by true = Unfinished
        held_by false = Whole

        held_more : (t : Bool) → Continued s w b m t → held_of (kept_at s w) (data_at s w ++ take m (drop continuation_bytes b)) ≡ held_by t
        held_more true z = ap (held_of (kept_at s w)) (sym (kept_more true z)) ∙ held_unfinished (class (kept_at s w)) (width (kept_at s w)) (height (kept_at s w)) (data_at s w ++ drop continuation_bytes b) z.0 few
        held_more false z = ap (held_of (kept_at s w)) (sym (kept_more false z)) ∙ held_whole (class (kept_at s w)) (width (kept_at s w)) (height (kept_at s w)) (data_at s w ++ drop continuation_bytes b) (length (data_at s w) + m) z few

        pub more_marked : marked ≡ is_unfinished (held_of (kept_at s w) (data_at s w ++ take m (drop continuation_bytes b)))
        more_marked = sym (ap is_unfinished (held_more marked y) ∙ back marked)
          where
            back : (t : Bool) → is_unfinished (held_by t) ≡ t
            back true = refl
            back false = refl

        pub more_grows : Growing n c (take m (drop continuation_bytes b)) s w
        unfolding held_under
        more_grows =
            let o = opened_there n c s w x q in
            let e : is_kept (held_of (kept_at s w) (data_at s w ++ take m (drop continuation_bytes b))) ≡ true = ap is_kept (held_more marked y) ∙ ok marked in
            record { fits = fitting n c s w x (kept_at s w) (data_at s w ++ take m (drop continuation_bytes b)) (rw o.kept e); there = o.there }
          where
            ok : (t : Bool) → is_kept (held_by t) ≡ true
            ok true = refl
            ok false = refl

        pub more_placed : putting_more n c b s ≡ placed n c (kept_at s w) (data_at s w ++ take m (drop continuation_bytes b)) s
        unfolding placed on_store
        more_placed = more_kept ∙ rw (le-leb (length (data_at s w ++ take m (drop continuation_bytes b))) data_limit (omega (arith, length-append (data_at s w) (take m (drop continuation_bytes b)))), x.ready.is)
