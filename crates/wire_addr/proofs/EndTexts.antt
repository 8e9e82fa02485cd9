-- Texts of addresses, blocks and endpoints of either version: which ones are rejected, and that each has one value.
use Rattle.std.proofs.Common.{◌≡◌, ◌≢◌, ℕ, List, [], ◌∷◌, ◌++◌, ◌≤◌, Option, Some, Result, Err, MatchOption, Bor, length, take, drop, refl, sym, ap, ◌∙◌, subst, arith, lit≤, ◌⊎◌, inl, inr, take_at, length-append}
use Rattle.std.specs.Net.Grammar.{Parses}
use Rattle.std.specs.Option.{ok_or}
use Rattle.std.specs.Result.{IsErr}
use Rattle.wire_addr.specs.Block.{Block}
use Rattle.wire_addr.specs.BlockText.{ReadsIpv4Block, ReadsIpv6Block}
use Rattle.wire_addr.specs.Read.{ReadsIpv4, ReadsIpv6}
use Rattle.wire_addr.proofs.BlockTexts.{one_block}
use Rattle.wire_addr.proofs.Readings.{ipv4_once, ipv6_once, not_both}
use Rattle.wire_addr.specs.Endpoint.{IsWithPort, ReadsEndpoint, ReadsHost, bracketed, endpoint_text, host_text}
use Rattle.wire_addr.specs.IpAddress.{ReadsAddress, address_text}
use Rattle.wire_addr.specs.IpCidr.{ReadsCidr}
use Rattle.wire_addr.specs.declared.ip_address.IpAddress.{IpAddress}
use Rattle.wire_addr.specs.declared.ip_address.IpAddress.TheVariants as ip
use Rattle.wire_addr.specs.declared.ip_cidr.IpCidr.{IpCidr}
use Rattle.wire_addr.specs.declared.ip_cidr.IpCidr.TheVariants as cidr
use Rattle.wire_addr.specs.declared.ip_endpoint.IpEndpoint.{IpEndpoint}
use Rattle.wire_addr.specs.Ending.{EndsInNumber}
use Rattle.wire_addr.proofs.Apart.{IsFirstMark, dotted_first, ipv6_first, mark_before, no_port, same_mark}
use Rattle.wire_addr.proofs.Endings.{ends_once, ends_printed, ends_wider}
use Rattle.wire_addr.proofs.Rejections.{rejected, was_none, was_some}

-- ---- rejected texts

-- a text that is an address of neither version is no address
pub no_address : (text : List ℕ) → ((octets : List ℕ) → ¬ (ReadsIpv4 text octets)) → ((octets : List ℕ) → ¬ (ReadsIpv6 text octets)) → (addr : IpAddress) → ¬ (ReadsAddress text addr)
no_address text four six (ip.Ipv4 octets) h = four octets h
no_address text four six (ip.Ipv6 octets) h = six octets h

-- ---- the first byte that is no hex digit

ipv4_mark : (text octets : List ℕ) → ReadsIpv4 text octets → IsFirstMark 46 text
ipv4_mark text octets h = dotted_first text octets h

ipv6_mark : (text octets : List ℕ) → ReadsIpv6 text octets → IsFirstMark 58 text
ipv6_mark text octets h = ipv6_first text h.0 h.1

bracket_mark : (text rest : List ℕ) → text ≡ 91 ∷ rest → IsFirstMark 91 text
bracket_mark text rest e = record { front = []; rest = rest; digits = tt; spelled = e }

-- ---- hosts

-- an IPv4 text does not begin with a bracket
pub no_bracket : (text octets rest : List ℕ) → text ≡ 91 ∷ rest → ReadsIpv4 text octets → ⊥
no_bracket text octets rest e h = absurd (omega (arith, same_mark 91 46 text (lit≤ tt) (lit≤ tt) (bracket_mark text rest e) (ipv4_mark text octets h)))

ends_alike : (front other : List ℕ) → front ++ 93 ∷ [] ≡ other ++ 93 ∷ [] → front ≡ other
ends_alike front other e =
    let long : length other ≡ length front = omega (arith, ap length e, length-append front (93 ∷ []), length-append other (93 ∷ [])) in
    sym (take_at front (93 ∷ []) (length front) refl) ∙ ap (take (length front)) e ∙ take_at other (93 ∷ []) (length front) long

-- no brackets, and no IPv4 address
pub no_plain_host : (text : List ℕ) → ((inner : List ℕ) → text ≢ bracketed inner) → ((octets : List ℕ) → ¬ (ReadsIpv4 text octets)) → (addr : IpAddress) → ¬ (ReadsHost text addr)
no_plain_host text none four addr = grind arith

-- brackets around a text that is no IPv6 address
pub no_inner_host : (text inner : List ℕ) → text ≡ bracketed inner → ((octets : List ℕ) → ¬ (ReadsIpv6 inner octets)) → (addr : IpAddress) → ¬ (ReadsHost text addr)
no_inner_host text inner e none (ip.Ipv4 octets) h = no_bracket text octets (inner ++ 93 ∷ []) e h
no_inner_host text inner e none (ip.Ipv6 octets) h =
    let same : h.0 ≡ inner = ends_alike h.0 inner (ap (drop 1) (sym h.1 ∙ e)) in
    none octets (subst (λ t. ReadsIpv6 t octets) same h.2)

-- ---- endpoints

-- a text that does not end in a port has none
pub no_port_text : {E F : Type 0} (text : List ℕ) (found : Option (Bor (List ℕ) × ℕ)) (e u : E) (result : Result IpEndpoint F) → Err e ≡ ok_or found u → MatchOption found ((front : List ℕ) (n : ℕ) → ¬ (EndsInNumber 58 5 65535 text front n)) (λ f. EndsInNumber 58 5 65535 text f.0.now f.1) → IsErr result → Parses IsWithPort text result
no_port_text text found e u result same h failed =
    let none = was_none _ _ found e u same h in
    rejected IsWithPort text result failed (λ endpoint k. none k.host_text endpoint.port k.port)

-- nor one whose front is no host
pub no_host_text : {F : Type 0} (text : List ℕ) (found : Option (Bor (List ℕ) × ℕ)) (front : Bor (List ℕ)) (n : ℕ) (result : Result IpEndpoint F) → found ≡ Some (front, n) → MatchOption found ((front : List ℕ) (n : ℕ) → ¬ (EndsInNumber 58 5 65535 text front n)) (λ f. EndsInNumber 58 5 65535 text f.0.now f.1) → ((addr : IpAddress) → ¬ (ReadsHost front.now addr)) → IsErr result → Parses IsWithPort text result
no_host_text text found front n result same h none failed =
    let ends = was_some _ _ found (front, n) same h in
    rejected IsWithPort text result failed (λ endpoint k.
    let (here, _) = ends_once 58 5 65535 (lit≤ tt) text k.host_text front.now endpoint.port n k.port ends in
    none endpoint.addr (subst (λ t. ReadsHost t endpoint.addr) here k.host))

-- only an address, with port 0
abbrev pub IsWithoutPort : List ℕ → IpEndpoint → Type 0
IsWithoutPort text endpoint = ReadsAddress text endpoint.addr × (endpoint.port ≡ 0)

-- a text is parsed as one form if it is not the other
pub first_form : {A E : Type 0} (R S : List ℕ → A → Type 0) (text : List ℕ) (result : Result A E) → ((a : A) → ¬ (S text a)) → Parses R text result → Parses (λ t a. R t a ⊎ S t a) text result
first_form R S text result none h = grind arith

pub second_form : {A E : Type 0} (R S : List ℕ → A → Type 0) (text : List ℕ) (result : Result A E) → ((a : A) → ¬ (R text a)) → Parses S text result → Parses (λ t a. R t a ⊎ S t a) text result
second_form R S text result none h = grind arith

-- ---- printed

-- the printed text before a port parses as the address if its own text does
printed_host : (addr : IpAddress) → ReadsAddress (address_text addr) addr → ReadsHost (host_text addr) addr
printed_host addr h = grind arith

-- a printed endpoint parses as that endpoint, if its address does
pub printed_endpoint : (endpoint : IpEndpoint) → endpoint.port ≤ 65535 → ReadsAddress (address_text endpoint.addr) endpoint.addr → ReadsEndpoint (endpoint_text endpoint) endpoint
printed_endpoint endpoint fits h =
    inr (record {
      host_text = host_text endpoint.addr;
      host = printed_host endpoint.addr h;
      port = ends_printed 58 5 65535 endpoint.port (host_text endpoint.addr) (lit≤ tt) (lit≤ tt) (lit≤ tt) fits;
    })

-- ---- one value per text

-- a text parses as at most one address
pub address_once : (text : List ℕ) (a b : IpAddress) → ReadsAddress text a → ReadsAddress text b → a ≡ b
address_once text (ip.Ipv4 a) (ip.Ipv4 b) h k = ap ip.Ipv4 (ipv4_once text a b h k)
address_once text (ip.Ipv4 a) (ip.Ipv6 b) h k = absurd (not_both text a b h k)
address_once text (ip.Ipv6 a) (ip.Ipv4 b) h k = absurd (not_both text b a k h)
address_once text (ip.Ipv6 a) (ip.Ipv6 b) h k = ap ip.Ipv6 (ipv6_once text a b h k)

-- no text is a block of both versions
blocks_apart : (text : List ℕ) (a b : Block) → ReadsIpv4Block text a → ReadsIpv6Block text b → ⊥
blocks_apart text a b h k =
    let wider = ends_wider 47 3 128 (lit≤ tt) text h.address_text a.prefix_len 2 32 (lit≤ tt) (lit≤ tt) h.prefix_len in
    let (same, _) = ends_once 47 3 128 (lit≤ tt) text h.address_text k.address_text a.prefix_len b.prefix_len wider k.prefix_len in
    not_both k.address_text a.address b.address (subst (λ t. ReadsIpv4 t a.address) same h.address) k.address

-- a text parses as at most one block
pub cidr_once : (text : List ℕ) (a b : IpCidr) → ReadsCidr text a → ReadsCidr text b → a ≡ b
cidr_once text (cidr.Ipv4 a) (cidr.Ipv4 b) h k = ap cidr.Ipv4 (one_block ReadsIpv4 2 32 text a b (λ front h k. ipv4_once front a.address b.address h k) h k)
cidr_once text (cidr.Ipv4 a) (cidr.Ipv6 b) h k = absurd (blocks_apart text a b h k)
cidr_once text (cidr.Ipv6 a) (cidr.Ipv4 b) h k = absurd (blocks_apart text b a k h)
cidr_once text (cidr.Ipv6 a) (cidr.Ipv6 b) h k = ap cidr.Ipv6 (one_block ReadsIpv6 3 128 text a b (λ front h k. ipv6_once front a.address b.address h k) h k)

-- hosts
host_marks : (text a b : List ℕ) → ReadsIpv4 text a → ReadsHost text (ip.Ipv6 b) → ⊥
host_marks text a b h k = no_bracket text a (k.0 ++ 93 ∷ []) k.1 h

host_once : (text : List ℕ) (a b : IpAddress) → ReadsHost text a → ReadsHost text b → a ≡ b
host_once text (ip.Ipv4 a) (ip.Ipv4 b) h k = ap ip.Ipv4 (ipv4_once text a b h k)
host_once text (ip.Ipv4 a) (ip.Ipv6 b) h k = absurd (host_marks text a b h k)
host_once text (ip.Ipv6 a) (ip.Ipv4 b) h k = absurd (host_marks text b a k h)
host_once text (ip.Ipv6 a) (ip.Ipv6 b) h k =
    let same : h.0 ≡ k.0 = ends_alike h.0 k.0 (ap (drop 1) (sym h.1 ∙ k.1)) in
    ap ip.Ipv6 (ipv6_once k.0 a b (subst (λ t. ReadsIpv6 t a) same h.2) k.2)

-- a text of an address has no port
module _ (text front : List ℕ) (n : ℕ) (ends : EndsInNumber 58 5 65535 text front n) where
  four_after : (octets : List ℕ) → ReadsIpv4 front octets → IsFirstMark 46 text
  four_after octets h = subst (IsFirstMark 46) (sym ends.spelled) (mark_before 46 front (58 ∷ ends.digits) (ipv4_mark front octets h))

  six_after : (octets : List ℕ) → ReadsHost front (ip.Ipv6 octets) → IsFirstMark 91 text
  six_after octets h = subst (IsFirstMark 91) (sym ends.spelled) (mark_before 91 front (58 ∷ ends.digits) (bracket_mark front (h.0 ++ 93 ∷ []) h.1))

  without_port_apart : (a b : IpAddress) → ReadsAddress text a → ReadsHost front b → ⊥
  without_port_apart (ip.Ipv4 a) (ip.Ipv4 b) h k = no_port text a front 5 65535 n h ends
  without_port_apart (ip.Ipv4 a) (ip.Ipv6 b) h k = omega (arith, same_mark 46 91 text (lit≤ tt) (lit≤ tt) (ipv4_mark text a h) (six_after b k))
  without_port_apart (ip.Ipv6 a) (ip.Ipv4 b) h k = omega (arith, same_mark 58 46 text (lit≤ tt) (lit≤ tt) (ipv6_mark text a h) (four_after b k))
  without_port_apart (ip.Ipv6 a) (ip.Ipv6 b) h k = omega (arith, same_mark 58 91 text (lit≤ tt) (lit≤ tt) (ipv6_mark text a h) (six_after b k))

same_endpoint : (a b : IpEndpoint) → a.addr ≡ b.addr → a.port ≡ b.port → a ≡ b
same_endpoint a b addr port = λ i. record { addr = addr i; port = port i }

-- a text parses as at most one endpoint
pub endpoint_once : (text : List ℕ) (a b : IpEndpoint) → ReadsEndpoint text a → ReadsEndpoint text b → a ≡ b
endpoint_once text a b (inl h) (inl k) = same_endpoint a b (address_once text a.addr b.addr h.0 k.0) (h.1 ∙ sym k.1)
endpoint_once text a b (inl h) (inr k) = absurd (without_port_apart text k.host_text b.port k.port a.addr b.addr h.0 k.host)
endpoint_once text a b (inr h) (inl k) = absurd (without_port_apart text h.host_text a.port h.port b.addr a.addr k.0 h.host)
endpoint_once text a b (inr h) (inr k) =
    let (same, port) = ends_once 58 5 65535 (lit≤ tt) text h.host_text k.host_text a.port b.port h.port k.port in
    same_endpoint a b (host_once k.host_text a.addr b.addr (subst (λ t. ReadsHost t a.addr) same h.host) k.host) port
