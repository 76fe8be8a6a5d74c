use Rattle.std.proofs.Common.{◌≡◌, ℕ, ◌+◌, ◌-◌, ◌*◌, ◌/◌, ◌%◌, Bool, true, List, ◌++◌, length, replicate, sym, ◌∙◌, append_assoc, append-nil, arith, length-append, pow_mono}
use lib.ListN.{length-replicate, replicate-append-replicate}
use Rattle.pictures.specs.Dots.{pack}
use Rattle.pictures.proofs.Packing.{run_within, run_first, run_last, size}
use Rattle.pictures.proofs.dots.blacken.Goals as goal

joined : (n a b c m : ℕ) (ds : List Bool) → a + b + c ≡ m → pack n (((ds ++ replicate a true) ++ replicate b true) ++ replicate c true) ≡ pack n (ds ++ replicate m true)
joined n a b c m ds e = simp (append_assoc, replicate-append-replicate, e)

joined_two : (n a b m : ℕ) (ds : List Bool) → a + b ≡ m → pack n ((ds ++ replicate a true) ++ replicate b true) ≡ pack n (ds ++ replicate m true)
joined_two n a b m ds e = rw (append_assoc, replicate-append-replicate, e)

pub returns-then-count-eq0 : goal.returns-then-count-eq0
returns-then-count-eq0 c = λ n ds e p. rw (c.if-count-eq0.true, append-nil) p

pub overflow_sub-head : goal.overflow_sub-head
overflow_sub-head c =
    let f = c.from-start.result in
    omega (arith, c.dots_from-head.ensures, c.dots_from-tail.ensures, pow_mono {i = 8 - (f + c.from.result) % 8} {j = 8 - f % 8} (omega arith))

pub returns-then-first-last : goal.returns-then-first-last
returns-then-first-last c =
    λ n ds e p.
    let a = c.args in
    let u : c.from-start.result ≡ a.from = c.from-start.ensures in
    let v : c.from.result ≡ a.count = c.from.ensures in
    rw (← v)
    (c.darken.ensures ∙ run_within n ds c.from-start.result c.from.result _ p (e ∙ sym u) _ c.if-first-last.true (omega (arith, size n ds _ p)) (omega arith)
    (rw (c.dots_from-head.ensures, c.dots_from-tail.ensures)))

pub overflow_sub-tail : goal.overflow_sub-tail
overflow_sub-tail c = omega (arith, c.dots_from-tail.ensures, pow_mono {i = 8 - (c.from-start.result + c.from.result) % 8} {j = 8} (omega arith))

pub returns-then-end-gt0 : goal.returns-then-end-gt0
returns-then-end-gt0 c =
    λ n ds e p.
    let a = c.args in
    let f = c.from-start.result in
    let m = c.from.result in
    let u : f ≡ a.from = c.from-start.ensures in
    let v : m ≡ a.count = c.from.ensures in
    let ds₁ : List Bool = ds ++ replicate (8 - f % 8) true in
    let l₁ : length ds₁ ≡ (f / 8 + 1) * 8 = simp (length-append, length-replicate) (omega arith) in
    let p₁ = c.darken-2.ensures ∙ run_first n ds f m _ p (e ∙ sym u) _ (omega (arith, size n ds _ p)) c.dots_from-head.ensures in
    let ds₂ : List Bool = ds₁ ++ replicate (((f + m) / 8 - (f / 8 + 1)) * 8) true in
    let l₂ : length ds₂ ≡ (f + m) / 8 * 8 = simp (length-append, length-replicate) (omega arith) in
    let p₂ = c.blacken_bytes.ensures n ds₁ l₁ p₁ in
    rw (← v)
    (c.darken-then-end-gt0.ensures ∙ run_last n ds₂ ((f + m) / 8) ((f + m) % 8) _ p₂ l₂ _ (omega arith) (omega (arith, size n ds _ p)) (rw c.dots_from-tail.ensures)
    ∙ joined n (8 - f % 8) (((f + m) / 8 - (f / 8 + 1)) * 8) ((f + m) % 8) m ds (omega arith))

pub returns-else-end-gt0 : goal.returns-else-end-gt0
returns-else-end-gt0 c =
    λ n ds e p.
    let a = c.args in
    let f = c.from-start.result in
    let m = c.from.result in
    let u : f ≡ a.from = c.from-start.ensures in
    let v : m ≡ a.count = c.from.ensures in
    let ds₁ : List Bool = ds ++ replicate (8 - f % 8) true in
    let l₁ : length ds₁ ≡ (f / 8 + 1) * 8 = simp (length-append, length-replicate) (omega arith) in
    let p₁ = c.darken-2.ensures ∙ run_first n ds f m _ p (e ∙ sym u) _ (omega (arith, size n ds _ p)) c.dots_from-head.ensures in
    rw (← v) (c.blacken_bytes.ensures n ds₁ l₁ p₁ ∙ joined_two n (8 - f % 8) (((f + m) / 8 - (f / 8 + 1)) * 8) m ds (omega arith))
