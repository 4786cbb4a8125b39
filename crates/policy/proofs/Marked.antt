-- The marked cases P1 to P10, and the case of steps that alter, hold of the definitions, by computation.
use mathlib.Core.Path.{refl}
use Rattle.bits.specs.Bits.{bit, with_bit}
use Rattle.bits.specs.Bounded.{any_below, all_below, fold_below}
use Rattle.level.specs.Levels.{rank_of, compartments_of, level_of, compare_of, is_at_most, meet_of}
use Rattle.policy.specs.Checks.{ladder}
use Rattle.policy.specs.Tables.{
  empty_tables,
  enables,
  firm_declared,
  person_declared,
  folder_declared,
  role_declared,
  class_of,
  in_force,
}
use Rattle.policy.specs.Rulebook.{
  body_length,
  little_endian,
  record_of,
  in_range,
  declared_before,
  firm_stands,
  folder_stands,
  enters_create,
  record_checks,
  made_public,
  declare,
  reaches,
  has_circle,
  is_loose,
  has_loose,
  end_checks,
  refused_book,
  ended,
  load_from,
  load_book,
}
use Rattle.policy.specs.Request.{subject, two, three, request_of, record_length, same, member}
use Rattle.policy.specs.Levels.{level_at, with_level_at, met_with, lowered}
use Rattle.policy.specs.Rules.{
  declared,
  right,
  did,
  stepped,
  accessed,
  firm_of_some,
  counts,
  counted,
  other_class,
  wall_access,
  wall,
  observed,
  lowered_by,
  current_level,
  some_request,
  used,
  role_covers,
  roles,
  done,
  leads_to,
  pipeline_step,
  pipeline,
  modify_outcome,
  level_outcome,
  low_water,
}
use Rattle.policy.specs.Calls.{
  rest_of,
  outcome_number,
  request_checks,
  judge_with,
  judge_over,
  added_if,
  judge_list,
  after_record,
  calls_from,
  calls_of,
  granted_in,
  refused_in,
}
use Rattle.policy.specs.Plans.{jobs_of, job_record, records, jobs_at}
use Rattle.policy.specs.Marked.{wall_answer, low_water_answer, held_answer, with_totals, MarkedCases}

pub marked_cases : MarkedCases
unfolding
    bit with_bit any_below all_below fold_below rank_of compartments_of level_of compare_of is_at_most meet_of ladder empty_tables enables
    firm_declared person_declared folder_declared role_declared class_of in_force body_length little_endian record_of in_range
    declared_before firm_stands folder_stands enters_create record_checks made_public declare reaches has_circle is_loose has_loose end_checks
    refused_book ended load_from load_book subject two three request_of record_length same member declared right did stepped accessed firm_of_some
    counts counted other_class wall_access wall observed lowered_by current_level some_request used role_covers roles done leads_to pipeline_step
    pipeline modify_outcome level_outcome low_water rest_of outcome_number request_checks judge_with judge_over added_if judge_list after_record
    calls_from calls_of granted_in refused_in level_at with_level_at met_with lowered wall_answer low_water_answer held_answer with_totals
    jobs_of job_record records jobs_at
marked_cases =
    record {
      P1 = refl;
      P2 = refl;
      P3 = refl;
      P4 = refl;
      P5 = refl;
      P6-loads = refl;
      P6-refused = refl;
      P7 = refl;
      P8 = refl;
      P9-one = refl;
      P9-other = refl;
      P10 = refl;
      steps = refl;
      held_step = refl;
      held_read = refl;
      held_write = refl;
      held_high = refl;
      held_low = refl;
      clearances = refl;
      jobs_as_listed = refl;
      jobs_in_order = refl;
    }
