use Rattle.std.proofs.Common.{ℕ, ◌-◌, ◌≤◌, ◌∙◌, arith, rules}
use Rattle.wire_addr.proofs.Blocks.{IsGreatest_number, number_over_mask, number_under_mask}
use Rattle.wire_addr.proofs.ipv4_cidr.Ipv4Cidr.broadcast.Goals as goal

pub returns : goal.returns
returns c =
    let s : ℕ = 32 - c.self.inside.prefix_len in
    let le : s ≤ 32 = omega arith in
    let address = c.self.inside.address in
    rw (← c.self.view_is) (
      search rules,
      IsGreatest_number 4 c.self.inside.prefix_len s address c.from_bits.result c.self.invariant.0 c.from_bits.ensures.octets
          (omega (arith, c.self.invariant.1))
          (c.from_bits.ensures.value
          ∙ rw (c.to_bits.ensures.value, c.mask_32-mask.ensures, number_under_mask 4 s address c.self.invariant.0 le)
          (number_over_mask 4 s address c.self.invariant.0 le)),
    )
