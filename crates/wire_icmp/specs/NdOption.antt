-- The options of neighbour discovery messages (RFC 4861, section 4.6).
-- Pinned by: `wire/ndisc`
use Rattle.std.specs.Prelude.{ℕ, zero, suc, ◌≡◌, ◌*◌, ◌<◌, ◌==◌, ◌&&◌, nat_le, nat_lt, if◌then◌else◌, List, [], ◌∷◌, drop, length, slice_index, take, Option, Some, None}
use Rattle.std.specs.List.{AllByRecursion, concat}
use Rattle.std.specs.Option.{option_and_then, option_map}
use Rattle.wire_addr.specs.declared.ethernet_address.EthernetAddress.{EthernetAddress}

-- The bytes of an option. The first is its type, the second its length in units of 8 bytes, which is not 0.
pub record IsNdOption (option : List ℕ) : Type 0 where
  pub some : 0 < slice_index option 1
  pub whole : length option ≡ 8 * slice_index option 1

-- the bytes are these options, one after the other
pub record AreOptions (bytes : List ℕ) (options : List (List ℕ)) : Type 0 where
  pub each : AllByRecursion IsNdOption options
  pub joined : bytes ≡ concat options

-- the first option of a type
abbrev pub first_of : ℕ → List (List ℕ) → Option (List ℕ)
first_of type [] = None
first_of type (option ∷ options) = if slice_index option 0 == type then Some option else first_of type options

-- The Ethernet address in an option: it follows type and length. Such an option has 8 bytes (RFC 2464, section 6).
abbrev pub IsLladdr : Option (List ℕ) → Option EthernetAddress → Type 0
IsLladdr None lladdr = lladdr ≡ None
IsLladdr (Some option) lladdr = (length option ≡ 8) × (lladdr ≡ Some (record { 0 = drop 2 option }))

-- the bytes are options, and this is the link-layer address in the first option of a type, if there is one
abbrev pub HasLladdr : List ℕ → ℕ → Option EthernetAddress → Type 0
HasLladdr bytes type lladdr = (options : List (List ℕ)) × AreOptions bytes options × IsLladdr (first_of type options) lladdr

-- ---- parsing, computed

-- the first option in the bytes, and the bytes after it
abbrev pub first_option : List ℕ → Option (List ℕ × List ℕ)
first_option bytes =
    let len = 8 * slice_index bytes 1 in
    if nat_lt 0 len && nat_le len (length bytes) then Some (take len bytes, drop len bytes) else None

-- the bytes as at most n options, if they are options
unfoldable pub options_within : ℕ → List ℕ → Option (List (List ℕ))
options_within n [] = Some []
options_within zero (b ∷ bs) = None
options_within (suc n) (b ∷ bs) =
    option_and_then (λ d. option_map (λ options. d.0 ∷ options) (options_within n d.1)) (first_option (b ∷ bs))

-- the bytes as options, if they are options
abbrev pub options_of : List ℕ → Option (List (List ℕ))
options_of bytes = options_within (length bytes) bytes

-- the link-layer address in an option; nothing if its length is not 8
abbrev pub lladdr_in : Option (List ℕ) → Option (Option EthernetAddress)
lladdr_in None = Some None
lladdr_in (Some option) = if length option == 8 then Some (Some (record { 0 = drop 2 option })) else None

-- the link-layer address in the first option of a type, `None` if there is no such option; nothing if the bytes are
-- no options or that option has another length
abbrev pub lladdr_of : ℕ → List ℕ → Option (Option EthernetAddress)
lladdr_of type bytes = option_and_then (λ options. lladdr_in (first_of type options)) (options_of bytes)
