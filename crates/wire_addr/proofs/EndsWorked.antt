-- An address and a text that the definitions exclude.
use Rattle.std.proofs.Common.{◌≢◌, ℕ, zero, suc, ◌<◌, [], ◌∷◌, arith, codes, get_or, inl, inr, lit≤, refl}
use Rattle.std.proofs.lemmas.Option.{none-some}
use Rattle.wire_addr.specs.Endpoint.{ReadsEndpoint}
use Rattle.wire_addr.specs.IpAddress.{ReadsAddress}
use Rattle.wire_addr.specs.IpCidr.{IsIn, block_at}
use Rattle.wire_addr.specs.declared.ip_address.IpAddress.{IpAddress}
use Rattle.wire_addr.specs.declared.ip_address.IpAddress.TheVariants.{Ipv4, Ipv6}
use Rattle.wire_addr.specs.declared.ip_endpoint.IpEndpoint.{IpEndpoint}
use Rattle.wire_addr.proofs.EndTexts.{no_bracket}
use Rattle.wire_addr.specs.Grammar.{IsNumber}
use Rattle.wire_addr.specs.Reading.{number_of}
use Rattle.wire_addr.proofs.Apart.{ipv6_first, same_mark}
use Rattle.wire_addr.proofs.Endings.{ends_at}
use Rattle.wire_addr.proofs.NumberTexts.{number_complete}

-- the block of all IPv4 addresses contains no IPv6 address
other_version : ¬ (IsIn (block_at (Ipv4 (0 ∷ 0 ∷ 0 ∷ 0 ∷ [])) 0) (Ipv6 (0 ∷ 0 ∷ 0 ∷ 0 ∷ 0 ∷ 0 ∷ 0 ∷ 0 ∷ 0 ∷ 0 ∷ 0 ∷ 0 ∷ 0 ∷ 0 ∷ 0 ∷ 1 ∷ [])))
other_version is = is

-- brackets without a port are rejected: there is no number after the last colon
after_last : (k : ℕ) → 2 < k → k < 5 → get_or (codes "[::1]") k 0 ≢ 58
after_last zero low high e = omega arith
after_last (suc zero) low high e = omega arith
after_last (suc (suc zero)) low high e = omega arith
after_last (suc (suc (suc zero))) low high e = omega (arith, e)
after_last (suc (suc (suc (suc zero)))) low high e = omega (arith, e)
after_last (suc (suc (suc (suc (suc k))))) low high e = omega arith

no_number : (n : ℕ) → ¬ (IsNumber 10 5 65535 (codes "1]") n)
unfolding number_of
no_number n h = none-some n (number_complete 10 5 65535 (codes "1]") n h)

no_address : (addr : IpAddress) → ¬ (ReadsAddress (codes "[::1]") addr)
no_address (Ipv4 octets) h = no_bracket (codes "[::1]") octets (codes "::1]") refl h
no_address (Ipv6 octets) h = omega (arith, same_mark 91 58 (codes "[::1]") (lit≤ tt) (lit≤ tt) (record { front = []; rest = codes "::1]"; digits = tt; spelled = refl }) (ipv6_first (codes "[::1]") h.0 h.1))

brackets-without_port : (endpoint : IpEndpoint) → ¬ (ReadsEndpoint (codes "[::1]") endpoint)
brackets-without_port endpoint (inl h) = no_address endpoint.addr h.0
brackets-without_port endpoint (inr h) =
    no_number endpoint.port (ends_at 58 5 65535 (lit≤ tt) (codes "[::1]") h.host_text endpoint.port 2 h.port (lit≤ tt) refl after_last).1
