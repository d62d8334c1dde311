use Rattle.std.proofs.Common.{◌≡◌, ◌+◌, ◌*◌, ◌/◌, ◌%◌, ◌^◌, ◌∙◌, arith}
use Rattle.survey.proofs.Trials.{tried_word, tried_fits}
use Rattle.survey.proofs.next.candidate.Goals as goal

pub unwrap-requires : goal.unwrap-requires
unwrap-requires c =
    let fit = tried_fits c.args.last c.args.bit _ _ c.requires.low c.requires.lacks c.word.ensures.value c.width.ensures.value in
    grind arith

pub returns-clause-word : goal.returns-clause-word
returns-clause-word c =
    let made : c.unwrap.result.word ≡ (c.word.result / 2 ^ c.args.bit + 1) * 2 ^ c.args.bit % 2 ^ 64 = grind arith in
    made ∙ tried_word c.args.last c.args.bit _ _ c.requires.low c.requires.lacks c.word.ensures.value c.width.ensures.value
