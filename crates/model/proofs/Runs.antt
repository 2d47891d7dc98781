-- The runs of specs/Runs.antt, by computation.
use mathlib.Core.Path.{refl}
use lib.Count.{ones_in, ones}
use Rattle.text.specs.Scan.{until}
use Rattle.text.specs.Whole.{digits_onto, read_whole, digit, leading, shortest, padded}
use Rattle.text.specs.Hundredths.{decimals, magnitude, read_hundredths, magnitude_text, hundredths_text}
use Rattle.text.specs.Put.{xor_onto}
use Rattle.frame.specs.Checksum.{lrc_of}
use Rattle.frame.specs.Fields.{first, more, fields, placed_more, placed, read_fields, offending}
use Rattle.frame.specs.Frame.{station_of, read_inner, read_frame, frame_position, opening, closing, frame_of}
use Rattle.names.specs.Command.{same, name_of, among, command_of}
use Rattle.numbers.specs.Ranges.{in_range, each_in_range, all_in_range}
use Rattle.data.specs.Ranges.{judge}
use Rattle.numbers.specs.Numbers.{numbers_text}
use Rattle.bodies.specs.Body.{read_shape, request_or_refusal, read_body}
use Rattle.bodies.specs.Position.{body_position}
use Rattle.replies.specs.Reply.{status_text}
use Rattle.reply_writer.specs.Writer.{outcome_text}
use Rattle.tables.specs.Tables.{loaded, stored, zeros}
use Rattle.model.specs.Setup.{too_high, contains, repeats, setup_number, setup_refusal}
use Rattle.model.specs.Box.{setup, scan, slot_of, is_fitted, has_room, decide, perform, respond, after, answer}
use Rattle.model.specs.Runs.{replayed_turns, Runs}

pub runs_hold : Runs
unfolding ones_in ones until digits_onto read_whole digit leading shortest padded
    decimals magnitude read_hundredths magnitude_text hundredths_text
    xor_onto lrc_of first more fields placed_more placed offending station_of read_inner read_frame frame_position opening closing frame_of
    same name_of among command_of in_range each_in_range all_in_range judge read_fields numbers_text read_shape request_or_refusal read_body body_position status_text outcome_text
    loaded stored zeros
    too_high contains repeats setup_number setup_refusal setup scan slot_of is_fitted has_room decide perform respond after answer replayed_turns
runs_hold = refl
