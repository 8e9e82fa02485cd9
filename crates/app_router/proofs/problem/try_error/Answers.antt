use Rattle.std.proofs.Common.{◌≡◌, refl, rules, true}
use Rattle.app_router.proofs.Problems.{no_problem, tries}
use Rattle.app_router.specs.IcmpProblem.{IsIn, message_of}
use Rattle.app_router.proofs.problem.try_error.Goals as goal

pub returns-then-is_in : goal.returns-then-is_in
returns-then-is_in c =
    let has : IsIn c.args.problem c.args.frame.now = search rules in
    let tells_of : c.message.result ≡ message_of c.args.problem = search rules in
    tries c.args.ours.now c.args.frame.now c.args.problem c.args.out.now c.try_error.new.out c.try_error.result has (rw tells_of at c.try_error.ensures)

pub returns-else-is_in : goal.returns-else-is_in
returns-else-is_in c =
    let none : ¬ IsIn c.args.problem c.args.frame.now = search rules in
    (refl, no_problem c.args.ours.now c.args.frame.now c.args.problem none)
