-- W-212, "Reading past a torn place": what a salvage reading answers, by what reading answers from each place on.
use Rattle.std.specs.Prelude.{ℕ, ◌+◌, ◌-◌, ◌≤◌, ◌<◌, ◌≡◌, ◌⊎◌, List, [], ◌∷◌, ◌++◌, true, length, get_or, take, drop}
use Rattle.form.specs.Num.{low_first}
use Rattle.form.specs.Records.{is_store}
use Rattle.stream.specs.Command.{command_at}
use Rattle.stream.specs.declared.command.Command.TheVariants.{SetFont, Broken}
use Rattle.marlinfold.specs.Calls.{read_stream, salvage_stream, Outcome, answered, outcome, leaves}

-- "a whole ESC *c#D command stands with a number within range"
abbrev pub Restart : List ℕ → ℕ → Type 0
Restart b i = (n next : ℕ) × (command_at b i ≡ SetFont n next) × (n ≤ 32767)

-- q is the first place from a place on where one stands; "If there is no such place", the end
pub record FirstRestart (b : List ℕ) (from q : ℕ) : Type 0 where
  pub later : from ≤ q
  pub inside : q ≤ length b
  pub here : (q ≡ length b) ⊎ Restart b q
  pub earlier : (i : ℕ) → from ≤ i → i < q → Restart b i → ⊥

-- "start there as a fresh reading would": the rest of the stream from a place on is read as a stream of its own
abbrev pub read_at : List ℕ → ℕ → List ℕ → Outcome
read_at b at s = outcome (read_stream (drop at b)) s

-- its numbers: "commands done, commands refused", and the place of a 13, here in the whole stream
abbrev pub done_at : List ℕ → ℕ → List ℕ → ℕ
done_at b at s = get_or (read_at b at s).numbers 0 0

abbrev pub refused_at : List ℕ → ℕ → List ℕ → ℕ
refused_at b at s = get_or (read_at b at s).numbers 1 0

abbrev pub torn_at : List ℕ → ℕ → List ℕ → ℕ
torn_at b at s = at + get_or (read_at b at s).numbers 2 0

-- "every skipped stretch by first place and length, each number 8 bytes, low byte first": from p up to q
abbrev pub stretch_to : ℕ → ℕ → List ℕ
stretch_to p q = low_first 8 p ++ low_first 8 (q - p)

-- ── the outcome from a place on, on the buffer s and with the list l
pub data SalvagedFrom (b : List ℕ) : (at : ℕ) (s l : List ℕ) → Outcome → Type 0 where
  -- no 13 up to the end: no stretch
  to_the_end :
      (at : ℕ) (s l : List ℕ) → (read_at b at s).refusal ≡ 0
      → SalvagedFrom b at s l (answered 0 (0 ∷ done_at b at s ∷ refused_at b at s ∷ []) (read_at b at s).store l)
  -- a 13, and "the list has no place for a stretch": every command before it stands
  list_full :
      (at : ℕ) (s l : List ℕ) → (read_at b at s).refusal ≡ 13 → length l < 16
      → SalvagedFrom b at s l (answered 12 (0 ∷ 0 ∷ 0 ∷ []) (read_at b at s).store l)
  -- a 13 and a place in the list: the stretch up to the restart, and what is answered from there on; the counts are "over the whole reading"
  tear_passed :
      (at : ℕ) (s l : List ℕ) (q k done refused : ℕ) (u m : List ℕ) → (read_at b at s).refusal ≡ 13 → 16 ≤ length l → FirstRestart b (torn_at b at s + 1) q
      → SalvagedFrom b q (read_at b at s).store (drop 16 l) (answered 0 (k ∷ done ∷ refused ∷ []) u m)
      → SalvagedFrom b at s l (answered 0 ((k + 1) ∷ (done_at b at s + done) ∷ (refused_at b at s + refused) ∷ []) u (stretch_to (torn_at b at s) q ++ m))
  -- the same where the list has no place for a later stretch: "the stretches listed so far and every command before the unlisted one standing"
  full_later :
      (at : ℕ) (s l : List ℕ) (q : ℕ) (u m : List ℕ) → (read_at b at s).refusal ≡ 13 → 16 ≤ length l → FirstRestart b (torn_at b at s + 1) q
      → SalvagedFrom b q (read_at b at s).store (drop 16 l) (answered 12 (0 ∷ 0 ∷ 0 ∷ []) u m)
      → SalvagedFrom b at s l (answered 12 (0 ∷ 0 ∷ 0 ∷ []) u (stretch_to (torn_at b at s) q ++ m))

-- the claim: so it is from the front on, for every stream, list and store
abbrev pub SalvagedByReading : Type 0
SalvagedByReading = (b l s : List ℕ) → is_store s ≡ true → SalvagedFrom b 0 s l (outcome (salvage_stream b l) s)

-- a stream without a 13 is salvaged to the same store and counts, with no stretch
abbrev pub WholeSalvaged : Type 0
WholeSalvaged =
    (b l s : List ℕ) → is_store s ≡ true → (outcome (read_stream b) s).refusal ≡ 0
    → outcome (salvage_stream b l) s ≡ answered 0 (0 ∷ done_at b 0 s ∷ refused_at b 0 s ∷ []) (leaves (read_stream b) s) l

-- ── what is read and what is skipped cover the stream, whatever store it is read into
-- the k stretches in a list lie in the stream from a place on: each begins at or after the end of the one before, and has a byte
pub data Covered (b : List ℕ) : (at k : ℕ) (l : List ℕ) → Type 0 where
  -- whole commands up to the end
  whole_rest : (at : ℕ) (l : List ℕ) → ((s : List ℕ) → is_store s ≡ true → (read_at b at s).refusal ≡ 0) → Covered b at 0 l
  -- whole commands up to the 13 where the stretch begins, then from its end on
  then_stretch :
      (at k first size : ℕ) (l : List ℕ) → take 16 l ≡ low_first 8 first ++ low_first 8 size → at ≤ first → 0 < size → first + size ≤ length b
      → ((s : List ℕ) → is_store s ≡ true → ((read_at b at s).refusal ≡ 13) × (torn_at b at s ≡ first)) → Covered b (first + size) k (drop 16 l) → Covered b at (k + 1) l

abbrev pub StretchesCover : Type 0
StretchesCover =
    (b l s : List ℕ) → is_store s ≡ true
    → let o : Outcome = outcome (salvage_stream b l) s in
    o.refusal ≡ 0 → Covered b 0 (get_or o.numbers 0 0) o.out

-- bytes x put between two whole streams b and c, which break the first at once and hold no restart before c's front, cost one stretch and nothing else
abbrev pub TornBetween : Type 0
TornBetween =
    (b x c l s : List ℕ) → is_store s ≡ true → (outcome (read_stream b) s).refusal ≡ 0 → command_at (b ++ (x ++ c)) (length b) ≡ Broken
    → FirstRestart (b ++ (x ++ c)) (length b + 1) (length b + length x) → (outcome (read_stream c) (leaves (read_stream b) s)).refusal ≡ 0 → 16 ≤ length l
    → let u : List ℕ = leaves (read_stream b) s in
    outcome (salvage_stream (b ++ (x ++ c)) l) s
    ≡ answered 0 (1 ∷ (done_at b 0 s + done_at c 0 u) ∷ (refused_at b 0 s + refused_at c 0 u) ∷ []) (leaves (read_stream c) u) (stretch_to (length b) (length b + length x) ++ drop 16 l)
