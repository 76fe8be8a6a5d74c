-- The font that a character comes to. Assumes nothing.
use mathlib.Core.Path.{◌≡◌, sym, ap, ◌∙◌}
use mathlib.Core.List.{List}
use mathlib.Core.Bool.{true}
use mathlib.Core.Option.{some}
use Prim.Native.Nat.{ℕ, ◌+◌, ◌≤◌}
use native.Mathlib.Omega.{arith}
use lib.ListN.{get_or, take, drop}
use lib.Seq.{get_or-take, get_or-drop}
use Rattle.blocks.specs.Header.{orientation, header_bytes, orientation_at}
use Rattle.form.specs.Layout.{key_of, font_kept_at, font_orientation_at, font_record, last_code, last_font}
use Rattle.form.specs.Num.{Bytes}
use Rattle.form.specs.Model.{font, held_under, is_kept}
use Rattle.form.specs.Order.{find_record}
use Rattle.form.specs.Walk.{Stands, Arriving, Fitting, font_orientation}
use Rattle.form.specs.declared.walk.Places.{Places}
use Rattle.form.proofs.Ready.{Ready, standing, same_store}
use Rattle.form.proofs.Seeks.{KeptFont}
use Rattle.store.proofs.Spots.{font_kept, font_span}

pub record Host (n c : ℕ) (s : List ℕ) (w : Places) : Type 0 where
  pub ready : Ready n (c + 1) s w
  pub low : n ≤ last_font
  pub code : c ≤ last_code
  pub header : List ℕ
  pub font_in : find_record (key_of n 0) ready.store.recs ≡ some (font n header)

pub host : (n c : ℕ) (s : List ℕ) (w : Places) → Bytes s → Arriving n c s w → Host n c s w
host n c s w B a =
    let r = standing n (c + 1) s B w a.stands in
    let i : a.stands.store ≡ r.store = same_store s a.stands.is r.is in
    record { ready = r; low = a.low; code = a.code; header = a.header; font_in = rw i at a.font_there }

module _ (n c : ℕ) (s : List ℕ) (w : Places) (x : Host n c s w) where
  host_font : KeptFont n (c + 1) s w
  host_font = record { ready = x.ready; low = x.low; header = x.header; there = x.font_in }

  pub host_span : w.lo + font_record ≤ w.hi
  host_span = font_span n (c + 1) s w host_font

  abbrev stood : Stands n (c + 1) s w
  stood = record { store = x.ready.store; is = x.ready.is; at = sym x.ready.at }

  abbrev pub arriving : Arriving n c s w
  arriving = record { stands = stood; low = x.low; code = x.code; header = x.header; font_there = x.font_in }

  abbrev pub fitting : (h d : List ℕ) → is_kept (held_under (orientation x.header) h d) ≡ true → Fitting n c h d s w
  fitting h d e = record { arrives = arriving; ok = e }

pub host_orientation : (n c : ℕ) (s : List ℕ) (w : Places) (x : Host n c s w) → font_orientation s w ≡ orientation x.header
host_orientation n c s w x =
    let k : take header_bytes (drop (w.lo + font_kept_at) s) ≡ x.header = font_kept n (c + 1) s w (record { ready = x.ready; low = x.low; header = x.header; there = x.font_in }) in
    let e : get_or (take header_bytes (drop (w.lo + font_kept_at) s)) orientation_at 0 ≡ get_or s (w.lo + font_kept_at + orientation_at) 0 = get_or-take header_bytes (drop (w.lo + font_kept_at) s) orientation_at 0 (omega arith) ∙ get_or-drop (w.lo + font_kept_at) s orientation_at 0 in
    let i : w.lo + font_kept_at + orientation_at ≡ w.lo + font_orientation_at = omega arith in
    sym (ap (λ (l : List ℕ). get_or l orientation_at 0) (sym k) ∙ e ∙ ap (λ (j : ℕ). get_or s j 0) i)
