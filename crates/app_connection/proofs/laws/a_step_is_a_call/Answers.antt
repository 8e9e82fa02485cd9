use Rattle.std.specs.Prelude.{option_map}
use Rattle.app_connection.specs.Runs.{steps}
use Rattle.app_connection.specs.Worlds.{said}
use Rattle.app_connection.proofs.laws.a_step_is_a_call.Goals as goal

pub returns : goal.returns
returns c = λ b was_opened wrote read sent may once. steps c.args.event c.step.new.self c.step.new.incoming (option_map said c.step.result) may once c.step.ensures.out c.step.ensures.steps
