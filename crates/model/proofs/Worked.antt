-- The statement of specs/Worked.antt, by computation.
use mathlib.Core.Path.{refl}
use Rattle.text.specs.Scan.{until}
use Rattle.text.specs.Whole.{read_whole, digits_onto, digit, leading, shortest, padded}
use Rattle.text.specs.Hundredths.{decimals, magnitude, read_hundredths, magnitude_text, hundredths_text}
use Rattle.text.specs.Put.{xor_onto}
use Rattle.frame.specs.Checksum.{lrc_of}
use Rattle.frame.specs.Frame.{station_of, read_inner, read_frame, opening, closing, frame_of}
use Rattle.frame.specs.Fields.{first, more, fields, read_fields}
use Rattle.steps.specs.Text.{chars_in, only_chars, is_text}
use Rattle.steps.specs.Step.{up_to, texts_of, is_datum, are_data, is_step, step_text}
use Rattle.programs.specs.Memory.{chars_at, filled, step_at}
use Rattle.names.specs.Command.{same, name_of, among, command_of}
use Rattle.numbers.specs.Ranges.{in_range, each_in_range, all_in_range}
use Rattle.data.specs.Ranges.{judge}
use Rattle.numbers.specs.Numbers.{numbers_text}
use Rattle.bodies.specs.Body.{read_shape, request_or_refusal, read_body, body_text}
use Rattle.replies.specs.Reply.{status_text}
use Rattle.reply_writer.specs.Writer.{content_fits, judge_outcome, outcome_text}
use Rattle.harl.specs.Message.{judge_asked, write_request, judge_reply, write_reply}
use Rattle.tables.specs.Tables.{loaded, stored, zeros}
use Rattle.model.specs.Setup.{too_high, contains, repeats, setup_number, setup_refusal}
use Rattle.model.specs.Box.{setup, scan, slot_of, has_room, decide, respond, answer}
use Rattle.model.specs.Worked.{result_of, worked, Worked}

pub worked_out : Worked
unfolding result_of worked until read_whole digits_onto digit leading shortest padded decimals magnitude
    read_hundredths magnitude_text hundredths_text xor_onto lrc_of opening closing frame_of first more fields same
    name_of among command_of in_range each_in_range all_in_range judge read_fields numbers_text read_shape request_or_refusal read_body body_text content_fits judge_outcome status_text
    outcome_text judge_asked write_request judge_reply write_reply station_of read_inner read_frame loaded stored zeros
    too_high contains repeats setup_number setup_refusal setup scan slot_of has_room decide respond answer
    chars_in only_chars is_text up_to texts_of is_datum are_data is_step step_text chars_at filled step_at
worked_out = refl
