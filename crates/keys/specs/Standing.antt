-- A dataset from the record at hand on: what a loop over its records after the third stands on.
use Rattle.std.specs.Prelude.{ℕ, ◌+◌, ◌≡◌, List, take, drop}
use Rattle.base.specs.Check.{Check, ok, bind, pass}
use Rattle.base.specs.Lists.{each, Each}
use Rattle.skeleton.specs.File.{Field, records_from}
use Rattle.rules.specs.ByTag.{first_tag}
use Rattle.rules.specs.Kind.{tag_of}
use Rattle.rules.specs.Grammar.{number4}
use Rattle.rules.specs.Content.{number5}
use Rattle.rules.specs.Trees.{number6}
use Rattle.rules.specs.Associations.{marks, number11}
use Rattle.rules.specs.Record.{Rec, key_of as key_in_rules}
use Rattle.rules.specs.Outcome.{Outcome, done, and_then, every_record}
use Rattle.rules.specs.File.{last_rank, dataset_test, taken}
use Rattle.rules.specs.declared.Kind.{Kind}
use Rattle.rules.specs.declared.Mode.TheVariants.{InDataset}
use Rattle.keys.specs.Listed.{keys_from}
use Rattle.keys.specs.Map.{kind_in}
use Rattle.keys.specs.Numbered.{Numbered}

-- numbers 4 to 6 of a record of a dataset, and its kind
unfoldable pub four_to_six : ℕ → List Field → Check Kind
four_to_six least fs =
    bind (number4 InDataset least fs) (λ k.
    bind (number5 InDataset k fs) (λ _.
    bind (number6 InDataset k fs) (λ _. ok k)))

-- an outcome of which only the refusal matters
unfoldable pub unread : {A : Type 0} → Outcome A → Outcome (Unit {0})
unread o = and_then o (λ _. done tt)

-- numbers 1 to 7 of the records from byte at on, after m records behind the third, which are these, the last one first
unfoldable pub outcome_from : List ℕ → ℕ → ℕ → List Rec → Outcome (Unit {0})
outcome_from f at m seen = unread (taken dataset_test 1 3 (m + 4) seen (records_from f at))

-- m records from start on were found right, the next is at at, the largest of their keys is top, and the whole comes to x
pub record Standing (f : List ℕ) (start at m top : ℕ) (x : Outcome (Unit {0})) : Type 0 where
  pub seen : List Rec
  pub rest : drop m (keys_from f start) ≡ keys_from f at
  pub numbered : Numbered seen (take m (keys_from f start))
  pub last : last_rank seen ≡ kind_in top
  pub outcome : outcome_from f at m seen ≡ x

-- number 11 of the records from byte at on, after m records behind the third, where those of the file are recs
unfoldable pub references_from : List Rec → List ℕ → ℕ → ℕ → Outcome (Unit {0})
references_from recs f at m =
    let keys = each key_in_rules recs in
    every_record (λ fs. number11 keys (marks 1 fs)) 1 (m + 4) (records_from f at).items

-- a record that has passed number 5 as one of the kind of its first tag
pub record Fine (fs : List Field) : Type 0 where
  pub kind : Kind
  pub five : number5 InDataset kind fs ≡ pass
  pub tag : first_tag fs ≡ tag_of kind

-- each of the records from byte at on is such
unfoldable pub FineFrom : List ℕ → ℕ → Type 0
FineFrom f at = Each Fine (records_from f at).items
