use Rattle.std.proofs.Common.{ℕ, ◌≡◌, ◌-◌, ◌≤◌, All, List, MatchOption, Option, None, Some, arith, inl, inr, subst, sym}
use Rattle.std.specs.Option.{SomeIff}
use Rattle.app_router.proofs.Elements.{counted}
use Rattle.app_router.specs.Index.{IsChosenAt}
use Rattle.app_router.specs.Table.{IsAnswer}
use Rattle.ip_wire.specs.IpCidr.{IsIn}
use Rattle.ip_wire.specs.declared.IpAddress.{IpAddress}
use Rattle.ip_wire.specs.declared.IpAddress.TheVariants.{Ipv4}
use Rattle.ip_wire.specs.declared.IpCidr.{IpCidr}
use Rattle.app_router.proofs.table.find.Goals as goal

-- the place of the chosen block, by the answer
place_of : (blocks : List IpCidr) (addr : IpAddress) (answer : ℕ) (place : Option ℕ) → IsAnswer blocks addr answer → SomeIff place (1 ≤ answer) (answer - 1)
    → MatchOption place (All (λ block. ¬ IsIn block addr) blocks) (IsChosenAt blocks addr)
place_of blocks addr answer None (inl (zero, none)) is = none
place_of blocks addr answer None (inr (i, more, chosen)) is = absurd (is (omega (arith, more)))
place_of blocks addr answer (Some place) (inl (zero, none)) (pos, e) = absurd (omega (arith, zero, pos))
place_of blocks addr answer (Some place) (inr (i, more, chosen)) (pos, e) = subst (IsChosenAt blocks addr) (let same : i ≡ place = omega (arith, more, e) in same) chosen

pub returns-in-Some : goal.returns-in-Some
returns-in-Some c blocks index table =
    let bytes = c.in-Ipv4.ipv4 in
    let answer = c.in-Some.ensures.answer blocks (counted blocks c.args.nodes.now index) table bytes c.to_bits.ensures.octets (sym c.to_bits.ensures.value) in
    subst (λ addr. MatchOption c.checked_sub.result (All (λ block. ¬ IsIn block addr) blocks) (IsChosenAt blocks addr)) (sym c.in-Ipv4.is)
    (place_of blocks (Ipv4 bytes) c.in-Some.answer c.checked_sub.result answer c.checked_sub.ensures)
