-- A salvage reading leaves what the downloads that it reads leave one by one. Assumes nothing.
use mathlib.Core.Path.{◌≡◌, refl, sym, ap, ◌∙◌}
use mathlib.Core.List.{List}
use mathlib.Core.Option.{Option, none, some}
use Prim.Native.Nat.{ℕ}
use lib.ListN.{length}
use Rattle.form.specs.Model.{Store, decode}
use Rattle.form.specs.Checks.{on_store}
use Rattle.store.specs.Answer.{no_run}
use Rattle.stream.specs.Reading.{none_counted, obey_all}
use Rattle.stream.specs.Downloads.{downloads_in, made_all}
use Rattle.stream.proofs.Readings.{obeyed_made, made_not}
use Rattle.salvage.specs.Salvage.{salvage_of, room_of, Salvaging, salvaged_by, salvaging, salvaged_downloads, SalvagedMade}
use Rattle.salvage.proofs.Onward.{salvage_not}

pub salvage_is : (b out s : List ℕ) (st : Store) → decode s ≡ some st
    → salvaging b out s ≡ salvaged_by (salvage_of b (room_of (length out))) out (obey_all (salvage_of b (room_of (length out))).actions (record { counts = none_counted; bad = no_run; bytes = s }))
unfolding salvaging on_store
salvage_is b out s st e = rw e

pub salvaged_made : SalvagedMade
unfolding salvaged_downloads
salvaged_made b out s = go (decode s) refl
  where
    go : (o : Option Store) → decode s ≡ o → (salvaging b out s).store ≡ made_all (downloads_in (salvage_of b (room_of (length out))).actions) s
    go none d = ap (λ (r : Salvaging). r.store) (salvage_not b out s d) ∙ sym (made_not (downloads_in (salvage_of b (room_of (length out))).actions) s d)
    go (some st) d =
        ap (λ (r : Salvaging). r.store) (salvage_is b out s st d) ∙ obeyed_made (salvage_of b (room_of (length out))).actions (record { counts = none_counted; bad = no_run; bytes = s })
