use Rattle.numbering.proofs.KnownLaws.{numbers_found}
use Rattle.numbering.proofs.known.next_numbers.Goals as goal

pub returns : goal.returns
returns c = let depth = c.number-depth.ensures.0 in
    let code = c.number-code.ensures.0 in
    let twins = c.twins_of-twins.ensures.0 in
    (numbers_found _ _ _ _ _ _ _ depth code twins c.parent_of-parent.ensures.0 c.steps_of-steps.ensures, c.remember.ensures _ depth code twins c.requires.2)
