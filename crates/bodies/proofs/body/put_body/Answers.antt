-- The name, SP, the number, and for an SN one more SP and the data.
use Rattle.text.proofs.Laws.{put_none, put_then}
use Rattle.bodies.specs.Body.{body_text}
use Rattle.bodies.proofs.body.put_body.Goals as goal

pub returns-then-rule : goal.returns-then-rule
unfolding body_text
returns-then-rule c =
    rw (← c.rule_of-rule.ensures, c.if-rule.true)
    (put_then c.put_name-space.ensures (put_then c.put_byte-digits.ensures (put_then c.put_shortest-end.ensures (put_then c.put_byte-from.ensures c.put_data.ensures))))

pub returns : goal.returns
unfolding body_text
returns c =
    rw (← c.rule_of-rule.ensures, c.if-rule.false)
    (put_then c.put_name-space.ensures (put_then c.put_byte-digits.ensures (put_then c.put_shortest-end.ensures (put_none _ _))))
