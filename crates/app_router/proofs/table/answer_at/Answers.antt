use Rattle.std.proofs.Common.{ℕ, ◌≡◌, ◌∙◌, ◌+◌, ◌%◌, ◌^◌, inl, inr, List, [], ◌∷◌, length, refl, arith, sym, subst}
use Rattle.std.specs.Int.{w32, from_be_bytes}
use Rattle.std.proofs.lemmas.Nat.{be_bytes_4}
use Rattle.app_router.specs.Index.{IsChosenAt}
use Rattle.app_router.specs.Table.{Answers, IsAnswer}
use Rattle.ip_wire.specs.Bytes.{IsByteArray}
use Rattle.ip_wire.specs.Prefix.{number_of}
use Rattle.ip_wire.specs.declared.IpAddress.TheVariants.{Ipv4}
use Rattle.ip_wire.specs.declared.IpCidr.{IpCidr}
use Rattle.app_router.proofs.table.answer_at.Goals as goal

spelled : (bytes : List ℕ) → length bytes ≡ 4 → number_of bytes ≡ from_be_bytes w32 bytes
spelled (a ∷ b ∷ c ∷ d ∷ []) four = omega arith
spelled bytes four = absurd (omega arith)

-- four bytes with the same number are the same
same_number : (xs ys : List ℕ) → IsByteArray 4 xs → IsByteArray 4 ys → number_of xs ≡ number_of ys → xs ≡ ys
same_number xs ys are_xs are_ys same =
    sym (be_bytes_4 xs (number_of xs) are_xs.0 are_xs.1 (spelled xs are_xs.0))
    ∙ be_bytes_4 ys (number_of xs) are_ys.0 are_ys.1 (same ∙ spelled ys are_ys.0)

-- the answer for an address is that for each address with its number
answers : (blocks : List IpCidr) (octets : List ℕ) (addr answer : ℕ) → number_of octets ≡ addr → IsByteArray 4 octets
    → IsAnswer blocks (Ipv4 octets) answer → Answers blocks (λ number. number ≡ addr) answer
answers blocks octets addr answer value are is bytes are_bytes same =
    subst (λ b. IsAnswer blocks (Ipv4 b) answer) (same_number octets bytes are are_bytes (value ∙ sym same)) is

pub returns-in-Some-clause-answer : goal.returns-in-Some-clause-answer
returns-in-Some-clause-answer c blocks index =
    let route = c.in-Some.route in
    let octets = c.from_bits.result in
    let chosen : IsChosenAt blocks (Ipv4 octets) route = c.in-Some.ensures blocks index in
    let more : (route + 1) % 2 ^ 32 ≡ route + 1 = omega (arith, chosen.within, index.count) in
    answers blocks octets c.args.addr ((route + 1) % 2 ^ 32) c.from_bits.ensures.value c.from_bits.ensures.octets (inr (route, more, chosen))

pub returns-in-None-clause-answer : goal.returns-in-None-clause-answer
returns-in-None-clause-answer c blocks index =
    let from_bits = c.from_bits in
    answers blocks from_bits.result c.args.addr 0 from_bits.ensures.value from_bits.ensures.octets (inl (refl, c.in-None.ensures blocks index))

pub returns-in-Some-clause-few : goal.returns-in-Some-clause-few
returns-in-Some-clause-few c blocks index =
    let chosen : IsChosenAt blocks (Ipv4 c.from_bits.result) c.in-Some.route = c.in-Some.ensures blocks index in
    omega (arith, chosen.within)
