use Rattle.stream.proofs.Laws.{line_ended, ended_within}
use Rattle.stream.proofs.input.end_line.Goals as goal

pub returns-clause-result_after : goal.returns-clause-result_after
returns-clause-result_after c =
    line_ended c.requires.within c.requires.waiting_bound c.front-line.ensures c.answer_line-waiting.ensures.answered

pub returns-clause-within_after : goal.returns-clause-within_after
returns-clause-within_after c =
    ended_within c.requires.within c.requires.waiting_bound c.answer_line-waiting.ensures.answered
