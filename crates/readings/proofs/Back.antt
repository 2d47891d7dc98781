-- The statement of specs/Back.antt.
use mathlib.Core.Path.{ap}
use Rattle.harl.proofs.Replies.{replies_read_back}
use Rattle.readings.specs.Reply.{converted}
use Rattle.readings.specs.Back.{ConvertedReadsBack}

pub converted_reads_back : ConvertedReadsBack
converted_reads_back room station r o h = ap converted (replies_read_back room station r o h)
