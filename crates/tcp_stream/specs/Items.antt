-- What a segment brings, in sequence numbers (RFC 9293, section 3.4).
-- Pinned by: `tcp/stream`
use Rattle.std.specs.Prelude.{ℕ, List, [], ◌∷◌, ◌++◌, map, Bool, true, false}
use Rattle.tcp_stream.specs.Endpoint.{Item, Syn, Byte}
use Rattle.tcp_stream.specs.Network.{end_of}

-- the item of a SYN
abbrev pub syn_of : Bool → List Item
syn_of true = Syn ∷ []
syn_of false = []

-- the items of a segment with these flags and bytes
abbrev pub items_of : Bool → List ℕ → Bool → List Item
items_of syn payload fin = syn_of syn ++ (map Byte payload ++ end_of fin)
