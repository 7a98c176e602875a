-- The versions of one record: what the update records that name it make of it.
use Rattle.std.specs.Prelude.{ℕ, ◌≡◌, List, [], ◌∷◌}
use Rattle.std.proofs.Math.Option.{Option, none}
use Rattle.base.specs.Choice.{pick}
use Rattle.base.specs.Check.{Check, ok, bind}
use Rattle.base.specs.Keys.{same}
use Rattle.skeleton.specs.File.{Field}
use Rattle.rules.specs.ByTag.{first_tag}
use Rattle.rules.specs.Kind.{kind_of}
use Rattle.rules.specs.Grammar.{on_kind}
use Rattle.rules.specs.Record.{Rec, key_named, key_of}
use Rattle.rules.specs.Change.{change}
use Rattle.rules.specs.Update.{find}

-- version v of the record with key q after update records, those that name it one after the other
unfoldable pub version : List ℕ → List (List Field) → Option Rec → Check (Option Rec)
version q [] v = ok v
version q (fs ∷ rest) v =
    on_kind (kind_of (first_tag fs)) (λ k.
    let here = bind (change k fs v) (λ v'. version q rest v') in
    pick (same (key_named k fs) q) here (version q rest v))

-- each key stands once
pub data Once : List Rec → Type 0 where
  o_none : Once []
  o_more : {r : Rec} {rs : List Rec} → find (key_of r) rs ≡ none → Once rs → Once (r ∷ rs)
