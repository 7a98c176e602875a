-- Numbers 4 to 6 of one record.
use Rattle.std.specs.Prelude.{ℕ, List}
use Rattle.base.specs.Check.{Check, ok, bind}
use Rattle.skeleton.specs.File.{Field}
use Rattle.rules.specs.Grammar.{number4}
use Rattle.rules.specs.Content.{number5}
use Rattle.rules.specs.Trees.{number6}
use Rattle.rules.specs.declared.Kind.{Kind}
use Rattle.rules.specs.declared.Mode.{Mode}

-- 4, 5 and 6 one after the other, and then the record's kind
unfoldable pub four_to_six_in : Mode → ℕ → List Field → Check Kind
four_to_six_in m least fs =
    bind (number4 m least fs) (λ k.
    bind (number5 m k fs) (λ _.
    bind (number6 m k fs) (λ _. ok k)))
