use Rattle.std.proofs.Common.{rules, ◌≡◌, ◌≢◌, ◌<◌, ◌≤◌, ◌∙◌, ap, length, Some, None, is_none, false, slice_index, arith}
use Rattle.std.proofs.lemmas.Grind.{common_steps}
use Rattle.wire_icmp.proofs.Options.{broken, ended, found, from_here, passed, skipped}
use Rattle.wire_icmp.proofs.ndisc.option.find_lladdr.Goals as goal
use Rattle.wire_icmp.proofs.ndisc.option.find_lladdr.Goals.{else-option-kind-via-then-option-kind+else-is_none, else-option-kind-via-else-option-kind}

pub returns-in_err-option : goal.returns-in_err-option
returns-in_err-option c =
    let some : 0 < length c.loop-rest.rest.now = grind (arith, common_steps) in
    c.loop-rest.invariant ∙ broken c.loop-rest.lladdr c.args.kind c.loop-rest.rest.now some c.in_err-option.ensures.err ∙ search rules

pub returns : goal.returns
returns c =
    let none : length c.loop-rest.rest.now ≤ 0 = grind (arith, common_steps) in
    c.loop-rest.invariant ∙ ended c.loop-rest.lladdr c.args.kind c.loop-rest.rest.now none

pub returns-in_err-read_lladdr : goal.returns-in_err-read_lladdr
returns-in_err-read_lladdr c =
    let none : c.loop-rest.lladdr ≡ None = grind (arith, common_steps) in
    let of_type : slice_index c.in_ok-option.option.now 0 ≡ c.args.kind = grind (arith, common_steps) in
    c.loop-rest.invariant ∙ ap (λ l. from_here l c.args.kind c.loop-rest.rest.now) none
    ∙ found None c.args.kind c.loop-rest.rest.now c.in_ok-option.option.now c.in_ok-option.following.now c.in_ok-option.ensures.ok of_type c.in_err-read_lladdr.ensures.err
    ∙ search rules

pub loop-rest-preserved-in_ok-read_lladdr : goal.loop-rest-preserved-in_ok-read_lladdr
loop-rest-preserved-in_ok-read_lladdr c =
    let none : c.loop-rest.lladdr ≡ None = grind (arith, common_steps) in
    let of_type : slice_index c.in_ok-option.option.now 0 ≡ c.args.kind = grind (arith, common_steps) in
    c.loop-rest.invariant ∙ ap (λ l. from_here l c.args.kind c.loop-rest.rest.now) none
    ∙ found (Some (Some c.in_ok-read_lladdr.field-0)) c.args.kind c.loop-rest.rest.now c.in_ok-option.option.now c.in_ok-option.following.now c.in_ok-option.ensures.ok of_type c.in_ok-read_lladdr.ensures.ok

pub loop-rest-preserved : goal.loop-rest-preserved
loop-rest-preserved c = elim c.else-option-kind.branch [
  | else-option-kind-via-then-option-kind+else-is_none w ↦
      let some : is_none c.loop-rest.lladdr ≡ false = grind (arith, common_steps) in
      c.loop-rest.invariant ∙ passed c.loop-rest.lladdr c.args.kind c.loop-rest.rest.now c.in_ok-option.option.now c.in_ok-option.following.now c.in_ok-option.ensures.ok some
  | else-option-kind-via-else-option-kind w ↦
      let other : slice_index c.in_ok-option.option.now 0 ≢ c.args.kind = grind (arith, common_steps) in
      c.loop-rest.invariant ∙ skipped c.loop-rest.lladdr c.args.kind c.loop-rest.rest.now c.in_ok-option.option.now c.in_ok-option.following.now c.in_ok-option.ensures.ok other
]
