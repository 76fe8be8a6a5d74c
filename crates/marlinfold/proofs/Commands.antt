-- A stream's counts are those of the answers that its commands get one by one, through the calls. Assumes nothing.
use Prim.Native.Nat.{ℕ}
use mathlib.Core.Path.{◌≡◌, refl, ap, ◌∙◌}
use mathlib.Core.List.{List, [], ◌∷◌}
use mathlib.Core.Bool.{true}
use mathlib.Core.Option.{Option, none, some}
use native.Mathlib.Omega.{arith}
use Rattle.form.specs.Model.{Store, decode}
use Rattle.form.specs.Records.{is_store, some_store}
use Rattle.stream.specs.Reading.{Action, number_set, download, font_block, character_block, making, spelled_from, first_target, reading}
use Rattle.stream.specs.Downloads.{answers_in, done_among, refused_among}
use Rattle.stream.proofs.Counts.{counted_by_answers}
use Rattle.store.specs.Calls.{downloading_font}
use Rattle.store.specs.Download.{downloading_character}
use Rattle.marlinfold.specs.Book.{call_of}
use Rattle.marlinfold.specs.Demands.{command_answers, CommandsAnswered}

-- the calls of a stream as its downloads
same_answers : (l : List Action) (s : List ℕ) → answers_in l s ≡ command_answers l s
unfolding answers_in command_answers call_of making
same_answers [] s = refl
same_answers (number_set k ∷ l) s = ap (λ (r : List ℕ). k ∷ r) (same_answers l s)
same_answers (download (font_block n b) ∷ l) s = ap (λ (r : List ℕ). (downloading_font n b s).answer ∷ r) (same_answers l (downloading_font n b s).bytes)
same_answers (download (character_block n c b) ∷ l) s = ap (λ (r : List ℕ). (downloading_character n c b s).answer ∷ r) (same_answers l (downloading_character n c b s).bytes)

pair : {a b c d : ℕ} → a ≡ c → b ≡ d → a ∷ b ∷ [] ≡ c ∷ d ∷ []
pair p q = rw (p, q)

pub commands_answered : CommandsAnswered
commands_answered b s i = go (decode s) refl (unfold is_store in i)
  where
    actions : List Action
    actions = (spelled_from b 0 first_target).actions

    go : (o : Option Store) → decode s ≡ o → some_store o ≡ true
        → (reading b s).answer.done ∷ (reading b s).answer.refused ∷ [] ≡ done_among (command_answers actions s) ∷ refused_among (command_answers actions s) ∷ []
    go none q z = let y : ◌≡◌ {A = ℕ} 0 1 = cc in absurd (omega arith)
    go (some st) q z =
        let x = counted_by_answers b s st q in
        let e = same_answers actions s in
        pair (x.0 ∙ ap done_among e) (x.1 ∙ ap refused_among e)
