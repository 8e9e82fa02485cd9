use Rattle.std.proofs.Common.{◌≡◌, rules, true}
use Rattle.app_router.proofs.Problems.{no_problem, tells}
use Rattle.app_router.specs.IcmpProblem.{IsIn, message_of}
use Rattle.app_router.proofs.problem.error.Goals as goal

pub returns-then-is_in-clause-error : goal.returns-then-is_in-clause-error
returns-then-is_in-clause-error c =
    let has : IsIn c.args.problem c.args.frame.now = search rules in
    let tells_of : c.message.result ≡ message_of c.args.problem = search rules in
    tells c.args.ours.now c.args.frame.now c.args.problem c.error.result has (rw tells_of at c.error.ensures.error)

pub returns-else-is_in-clause-error : goal.returns-else-is_in-clause-error
returns-else-is_in-clause-error c =
    let none : ¬ IsIn c.args.problem c.args.frame.now = search rules in
    no_problem c.args.ours.now c.args.frame.now c.args.problem none
