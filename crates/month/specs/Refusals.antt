-- What a month may answer: what the updater may, and 1 of no record.
use Rattle.base.specs.Check.{fault}
use Rattle.rules.specs.Answers.{refusal}
use Rattle.rules.specs.declared.Answer.{Answer}
use Rattle.numbers.specs.Refusals.{of_updater, Answered}

-- as the updater, done or refused; or 1 of file 1, where the chart's length runs past its pool, or of file 2, where the list goes on with no whole file
pub data MonthAnswered : Answer → Type 0 where
  as_updater : (a : Answer) → Answered of_updater a → MonthAnswered a
  past_pool : MonthAnswered (refusal 1 0 (fault 1 0 0))
  list_cut : MonthAnswered (refusal 2 0 (fault 1 0 0))
