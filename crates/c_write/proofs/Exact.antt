-- There is a failure exactly if there are no bytes.
use Rattle.std.proofs.Common.{ℕ, ◌≡◌, ◌≢◌, ◌∙◌, ◌&&◌, true, false, true≢false, Bool, if◌then◌else◌, List, length, Option, Some, None, is_none, is_some, not, refl, sym, ap, arith}
use Rattle.std.proofs.lemmas.Bool.Decides.{nat_tests}
use Rattle.std.specs.Option.{option_and_then, option_map, option_or}
use Rattle.c_structs.specs.Addresses.{block_of, ip_of, pair_of}
use Rattle.c_structs.specs.Failures.{addr_failure, block_failure}
use Rattle.c_write.specs.Failures.{arp_failure, field_failure, ip_failure, options_failure, pair_failure, segment_failure, tcp_failure, udp_failure}
use Rattle.c_write.specs.Headers.{arp_bytes, ends_of, has_port, header_bytes, ip_between, ip_bytes, ip_value, is_expressible, only_if, segment_bytes, segment_header_len, tcp_bytes, tcp_header_len, tcp_value, udp_bytes}
use Rattle.c_structs.specs.declared.failures.Failure.{Failure}
use Rattle.c_structs.specs.declared.failures.Failure.TheVariants as failure
use Rattle.ip_wire.specs.Types.{IpAddress}
use Rattle.ip_wire.specs.declared.IpAddress.TheVariants as address
use Rattle.wire_tcp.proofs.OptionLens.{some_map}
use Rattle.c_structs.specs.declared.types.Addr.{Addr}
use Rattle.c_structs.specs.declared.types.Arp.{Arp}
use Rattle.c_structs.specs.declared.types.Block.{Block}
use Rattle.c_structs.specs.declared.types.Endpoint.{Endpoint}
use Rattle.c_structs.specs.declared.types.Ip.{Ip}
use Rattle.c_structs.specs.declared.types.Tcp.{Tcp}
use Rattle.c_structs.specs.declared.types.TcpOptions.{TcpOptions}

pub addr-exact : (a : Addr) → is_some (ip_of a) ≡ is_none (addr_failure a)
addr-exact a = grind (arith, nat_tests)

pub block-exact : (b : Block) → is_some (block_of b) ≡ is_none (block_failure b)
block-exact b = grind (arith, nat_tests)

pub pair-exact : (a b : Addr) → is_some (pair_of a b) ≡ is_none (pair_failure a b)
pair-exact a b = grind (arith, nat_tests)

pub arp-exact : (h : Arp) (src dst : Addr) → is_some (arp_bytes h src dst) ≡ is_none (arp_failure src dst)
arp-exact h src dst = grind (arith, nat_tests)

-- ---- options

none-is : {T : Type 0} (o : Option T) → is_none o ≡ true → o ≡ None
none-is None e = refl
none-is (Some x) e = absurd (true≢false (sym e))

pub and_then-some : {A B : Type 0} (f : A → Option B) (b : Bool) (o : Option A) → ((x : A) → is_some (f x) ≡ b) → is_some (option_and_then f o) ≡ is_some o && b
and_then-some f b None each = refl
and_then-some f b (Some x) each = each x

pub or-none : {T : Type 0} (o p : Option T) → is_none (option_or o p) ≡ is_none o && is_none p
or-none None p = refl
or-none (Some x) p = refl

pub only-some : {T : Type 0} (b : Bool) (x : T) → is_some (only_if b x) ≡ b
only-some true x = refl
only-some false x = refl

-- ---- IP

version-4 : (a b : Addr) (x y : List ℕ) → pair_of a b ≡ Some (address.Ipv4 x, address.Ipv4 y) → a.version ≡ 4
version-4 a b x y e = grind (arith, nat_tests)

version-6 : (a b : Addr) (x y : List ℕ) → pair_of a b ≡ Some (address.Ipv6 x, address.Ipv6 y) → a.version ≡ 6
version-6 a b x y e = grind (arith, nat_tests)

mixed : (a b : Addr) (x y : List ℕ) → (pair_of a b ≢ Some (address.Ipv4 x, address.Ipv6 y)) × (pair_of a b ≢ Some (address.Ipv6 x, address.Ipv4 y))
mixed a b x y = (λ e. grind (arith, nat_tests), λ e. grind (arith, nat_tests))

-- a header whose addresses have a version, by its fields
value-exact : (h : Ip) (number len : ℕ) (src dst : Addr) (pair : Option (IpAddress × IpAddress)) → pair_of src dst ≡ pair
    → is_some (option_and_then (λ v. only_if (is_expressible h v) v) (option_and_then (λ pair. ip_between h number len pair.0 pair.1) pair))
    ≡ is_none (ip_failure h src dst len)
value-exact h number len src dst None e =
    let none : is_none (pair_failure src dst) ≡ false = sym (pair-exact src dst) ∙ ap is_some e in
    rw (or-none (pair_failure src dst) (field_failure h src.version len), none) refl
value-exact h number len src dst (Some (address.Ipv4 x, address.Ipv4 y)) e =
    let none : pair_failure src dst ≡ None = none-is _ (sym (pair-exact src dst) ∙ ap is_some e) in
    rw (none, version-4 src dst x y e) (grind (arith, nat_tests))
value-exact h number len src dst (Some (address.Ipv6 x, address.Ipv6 y)) e =
    let none : pair_failure src dst ≡ None = none-is _ (sym (pair-exact src dst) ∙ ap is_some e) in
    rw (none, version-6 src dst x y e) (grind (arith, nat_tests))
value-exact h number len src dst (Some (address.Ipv4 x, address.Ipv6 y)) e = absurd ((mixed src dst x y).0 e)
value-exact h number len src dst (Some (address.Ipv6 x, address.Ipv4 y)) e = absurd ((mixed src dst x y).1 e)

pub ip-value-exact : (h : Ip) (number len : ℕ) (src dst : Addr) → is_some (ip_value h number src dst len) ≡ is_none (ip_failure h src dst len)
ip-value-exact h number len src dst = value-exact h number len src dst (pair_of src dst) refl

pub ip-exact : (h : Ip) (src dst : Addr) (len : ℕ) (computed : Bool) → is_some (ip_bytes h src dst len computed) ≡ is_none (ip_failure h src dst len)
ip-exact h src dst len computed = some_map (header_bytes h computed) (ip_value h h.protocol src dst len) ∙ ip-value-exact h h.protocol len src dst

ends-exact : (ports : Bool) (src dst : Endpoint) → is_some (ends_of ports src dst) ≡ is_none (pair_failure src.addr dst.addr) && ports
ends-exact ports src dst =
    and_then-some (λ pair. only_if ports pair) ports (pair_of src.addr dst.addr) (λ pair. only-some ports pair)
    ∙ ap (λ b. b && ports) (pair-exact src.addr dst.addr)

-- a test of ports before another one
ported : (b ports : Bool) (why : Option Failure) → (b && ports) && is_none why ≡ b && is_none (if not ports then Some failure.NoPort else why)
ported true true why = refl
ported true false why = refl
ported false ports why = refl

pub udp-exact : (src dst : Endpoint) (payload : List ℕ) (computed : Bool) → is_some (udp_bytes src dst payload computed) ≡ is_none (udp_failure src dst (length payload))
udp-exact src dst payload computed = grind (arith, nat_tests)

pub options-exact : (o : TcpOptions) → is_some (tcp_header_len o) ≡ is_none (options_failure o)
options-exact o = grind (arith, nat_tests)

-- ---- TCP

-- a header before a payload, whatever its endpoints are
segment-exact : (h : Tcp) (o : TcpOptions) (len : ℕ) → is_some (segment_header_len h o len) ≡ is_none (segment_failure h o len 65535)
segment-exact h o len = grind (arith, nat_tests)

pub tcp-exact : (h : Tcp) (o : TcpOptions) (src dst : Endpoint) (payload : List ℕ) (computed : Bool)
    → is_some (tcp_bytes h o src dst payload computed) ≡ is_none (tcp_failure h o src dst (length payload))
tcp-exact h o src dst payload computed =
    let ports = has_port src && has_port dst in
    let size = segment_header_len h o (length payload) in
    let written = and_then-some (λ pair. option_map (λ len. segment_bytes h (tcp_value h o src.port dst.port) payload pair.0 pair.1 computed) size) (is_some size) (ends_of ports src dst)
    (λ pair. some_map (λ len. segment_bytes h (tcp_value h o src.port dst.port) payload pair.0 pair.1 computed) size) in
    written ∙ rw (ends-exact ports src dst, segment-exact h o (length payload)) (ported (is_none (pair_failure src.addr dst.addr)) ports (segment_failure h o (length payload) 65535) ∙ sym (or-none (pair_failure src.addr dst.addr) _))
