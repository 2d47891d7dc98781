-- The statement of specs/Worked.antt, by computation.
use mathlib.Core.Path.{refl}
use lib.Count.{count_trailing_zeros}
use lib.Ieee.{span, climb, size, odd, units, round, div, of_int, of_fields, of_bits, to_bits}
use Rattle.text.specs.Scan.{until}
use Rattle.text.specs.Whole.{read_whole, digits_onto, digit, leading, shortest, padded}
use Rattle.text.specs.Hundredths.{decimals, magnitude, read_hundredths}
use Rattle.text.specs.Put.{xor_onto}
use Rattle.frame.specs.Checksum.{lrc_of}
use Rattle.frame.specs.Frame.{station_of, read_inner, read_frame, opening, closing, frame_of}
use Rattle.frame.specs.Fields.{first, more, fields, read_fields}
use Rattle.steps.specs.Text.{chars_in, only_chars, is_text, all_chars, pack, read_text}
use Rattle.steps.specs.Step.{is_datum, are_data, is_step, read_step}
use Rattle.numbers.specs.Ranges.{in_range, each_in_range, all_in_range}
use Rattle.data.specs.Ranges.{judge}
use Rattle.reply_reader.specs.Reader.{read_status, read_load_outcome}
use Rattle.harl.specs.Message.{judge_asked, read_reply}
use Rattle.untyped.specs.Worked.{result_of, examples, Worked}

pub worked_out : Worked
unfolding result_of examples count_trailing_zeros span climb size odd units round div of_int of_fields of_bits to_bits until
    read_whole digits_onto digit leading shortest padded decimals magnitude read_hundredths xor_onto lrc_of station_of
    read_inner read_frame opening closing frame_of first more fields read_fields chars_in only_chars is_text all_chars pack read_text
    is_datum are_data is_step read_step in_range each_in_range all_in_range judge read_status read_load_outcome judge_asked
    read_reply
worked_out = refl
