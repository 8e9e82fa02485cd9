use Rattle.std.proofs.Common.{◌≡◌, ◌+◌, ◌-◌, ◌*◌, ◌/◌, ◌%◌, ◌<◌, ap, arith, drop}
use Rattle.std.specs.Net.Text.{longest_zero_run}
use Rattle.wire_addr.proofs.ipv6_address.longest_zero_run.Goals as goal

pub returns-clause-value : goal.returns-clause-value
returns-clause-value c =
    let groups = c.args.groups.now in
    let none : c.loop-i.i ≡ 0 = omega arith in
    let all : drop c.loop-i.i groups ≡ groups = ap (λ k. drop k groups) none in
    let run = longest_zero_run groups in
    let longest : c.loop-i.longest ≡ 8 * run.1 + (7 - (c.loop-i.i + run.0)) = rw all at c.loop-i.invariant.longest in
    let begins : c.loop-i.i < 8 → c.loop-i.i + run.0 < 8 = rw all at c.loop-i.invariant.begins in
    let first : c.loop-i.i + run.0 < 8 = begins (omega arith) in
    let start : 7 - c.loop-i.longest % 8 ≡ run.0 = omega arith in
    let len : c.loop-i.longest / 8 ≡ run.1 = omega arith in
    λ t. (start t, len t)
