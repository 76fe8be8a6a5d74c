-- Laws of the last line and of the whole text. Assumes nothing.
use Prim.Native.Nat.{ℕ, ◌+◌, ◌*◌, ◌<◌, ◌≤◌}
use mathlib.Core.Path.{◌≡◌, refl, ap, ◌∙◌}
use mathlib.Core.List.{List, [], ◌∷◌}
use mathlib.Core.Option.{Option, none, some}
use native.Mathlib.Omega.{arith}
use borrow.Author.Tests.{le-leb, lt-leb}
use lib.ListN.{length, replicate, length-replicate}
use Rattle.store.specs.Calls.{fresh, making_fresh}
use Rattle.form.specs.Fonts.{fonts_of}
use Rattle.stream.specs.Digits.{decimal_of}
use Rattle.change.specs.Put.{with_bytes}
use Rattle.stream.specs.Reading.{Ending, StreamAnswer, end_answer, reading}
use Rattle.stream.specs.Underway.{RefusedNone}
use Rattle.stream.specs.declared.reading.CommandCounts.{CommandCounts}
use Rattle.stream.specs.declared.reading.Stopped.{Stopped}
use Rattle.store.specs.declared.download.BadRun.{BadRun}
use Rattle.store.proofs.Appends.{fresh_valid}
use Rattle.form.specs.Num.{◌and◌}
use Rattle.form.specs.Model.{Store, decode, encode}
use Rattle.form.proofs.Codec.{decode_encode}
use Rattle.refusals.specs.declared.Refused.{Refused}
use Rattle.std.specs.Prelude.{Result, Ok, Err, Some, None, IsOk}
use Rattle.stream.proofs.Decimals.{tens, decimal_short}
use Rattle.text.specs.Wrote.{Wrote}
use Rattle.text.specs.Column.{column}
use Rattle.listing.specs.Line.{lines}
use Rattle.listing.specs.Summary.{done_word, refused_word, stopped_word, counts, stopped, summary}
use Rattle.listing.specs.Listing.{heading, too_long, most_input, store_bytes, fresh_store, listing_text, listing, text_room}
use Rattle.text.proofs.Writes.{wrote_put, wrote_length, wrote_then}

-- a writer of the stream's says this
abbrev pub Puts : List ℕ → ℕ → List ℕ → ℕ → List ℕ → Type 0
Puts s at b end out = (end ≡ at + length b) × (out ≡ with_bytes s at b)

pub wrote_counts : (s o₁ o₂ o₃ o₄ : List ℕ) (at e₁ e₂ e₃ e₄ done refused : ℕ) → at + 54 ≤ length s → Puts s at done_word e₁ o₁
    → Wrote o₁ e₁ (column done 32) e₂ o₂ → e₂ ≤ e₁ + 21 → refused < tens 19 * 10 → Puts o₂ e₂ refused_word e₃ o₃ → Puts o₃ e₃ (decimal_of refused) e₄ o₄
    → Wrote s at (counts done refused) e₄ o₄
unfolding counts
wrote_counts s o₁ o₂ o₃ o₄ at e₁ e₂ e₃ e₄ done refused h p w b f q r =
    let w₁ = wrote_put s done_word o₁ at e₁ (omega arith) p.0 p.1 in
    let l₁ = wrote_length s done_word o₁ at e₁ w₁ in
    let l₂ = wrote_length o₁ (column done 32) o₂ e₁ e₂ w in
    let w₃ = wrote_put o₂ refused_word o₃ e₂ e₃ (omega (arith, p.0)) q.0 q.1 in
    let l₃ = wrote_length o₂ refused_word o₃ e₂ e₃ w₃ in
    let w₄ = wrote_put o₃ (decimal_of refused) o₄ e₃ e₄ (omega (arith, p.0, q.0, decimal_short 19 refused f)) r.0 r.1 in
    wrote_then _ _ _ _ _ _ _ _ w₁ (wrote_then _ _ _ _ _ _ _ _ w (wrote_then _ _ _ _ _ _ _ _ w₃ w₄))

pub wrote_place : (s o₁ o₂ : List ℕ) (at e₁ e₂ p : ℕ) → at + 30 ≤ length s → Puts s at stopped_word e₁ o₁ → Wrote o₁ e₁ (column p 10) e₂ o₂
    → Wrote s at (stopped p) e₂ o₂
unfolding stopped
wrote_place s o₁ o₂ at e₁ e₂ p h q w =
    wrote_then s stopped_word (column p 10) o₁ o₂ at e₁ e₂ (wrote_put s stopped_word o₁ at e₁ (omega arith) q.0 q.1) w

module _ (e : Ending) (x : CommandCounts) (run : BadRun) (s o₁ o₂ : List ℕ) (at e₁ e₂ : ℕ) (w : Wrote s at (counts x.done x.refused) e₁ o₁) where
  pub wrote_stopped : (p : ℕ) → e ≡ Some p → Wrote o₁ e₁ (stopped p) e₂ o₂ → Wrote s at (summary (end_answer e x run)) e₂ o₂
  unfolding summary end_answer
  wrote_stopped p q v = rw q (wrote_then _ _ _ _ _ _ _ _ w v)

  pub wrote_ended : e ≡ None → e₁ + 1 ≤ length o₁ → Puts o₁ e₁ (10 ∷ []) e₂ o₂ → Wrote s at (summary (end_answer e x run)) e₂ o₂
  unfolding summary end_answer
  wrote_ended q h p = rw q (wrote_then _ _ _ _ _ _ _ _ w (wrote_put o₁ (10 ∷ []) o₂ e₁ e₂ h p.0 p.1))

-- ── the whole text
pub wrote_long : (input s out : List ℕ) (end : ℕ) → most_input < length input → text_room ≤ length s → Puts s 0 too_long end out → Wrote s 0 (listing input) end out
unfolding listing
wrote_long input s out end h l p = rw (lt-leb (length input) most_input h) (wrote_put s too_long out 0 end (omega arith) p.0 p.1)

pub is_fresh : (f : List ℕ) → f ≡ (making_fresh (replicate store_bytes 0)).bytes → f ≡ fresh_store
unfolding fresh_store
is_fresh f e = e

fresh_bytes : (s : List ℕ) → length s ≡ store_bytes → (making_fresh s).bytes ≡ encode (fresh store_bytes)
unfolding making_fresh ◌and◌
fresh_bytes s e = rw e

not_both : {o : Option Store} {st : Store} → o ≡ some st → o ≡ none → ⊥
not_both p q = cc

pub read_fresh : (f : List ℕ) (r : Result Stopped Refused) → f ≡ (making_fresh (replicate store_bytes 0)).bytes → RefusedNone f r → IsOk r
read_fresh f (Ok x) e n = refl
read_fresh f (Err q) e n =
    absurd (not_both (ap decode (e ∙ fresh_bytes (replicate store_bytes 0) (length-replicate {A = ℕ} store_bytes 0)) ∙ decode_encode (fresh store_bytes) (fresh_valid store_bytes (omega arith) (omega arith))) (n refl))

pub wrote_listing : (input f store s o₁ o₂ o₃ : List ℕ) (a : StreamAnswer) (e₁ e₂ e₃ : ℕ) → length input ≤ most_input → f ≡ fresh_store
    → a ≡ (reading input f).answer → store ≡ (reading input f).bytes → text_room ≤ length s → Puts s 0 heading e₁ o₁
    → Wrote o₁ e₁ (lines store (fonts_of store)) e₂ o₂ → Wrote o₂ e₂ (summary a) e₃ o₃ → Wrote s 0 (listing input) e₃ o₃
unfolding listing listing_text
wrote_listing input f store s o₁ o₂ o₃ a e₁ e₂ e₃ h e p q l u w v =
    rw (le-leb (length input) most_input h, ← e, ← p, ← q)
    (wrote_then _ _ _ _ _ _ _ _ (wrote_put s heading o₁ 0 e₁ (omega arith) u.0 u.1) (wrote_then _ _ _ _ _ _ _ _ w v))
