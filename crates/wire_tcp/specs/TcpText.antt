-- The printed texts of TCP segments.
-- Pinned by: `cases/tcp_shapes`, `cases/tcp_options`, `wire/tcp_options`, `wire/tcp_repr`
use Rattle.std.specs.Prelude.{ℕ, zero, suc, ◌++◌, ◌==◌, ◌-◌, if◌then◌else◌, List, [], ◌∷◌, codes, decimal, length, replicate, Option, Some, None}
use Rattle.std.specs.List.{join_by}
use Rattle.std.specs.Option.{option_map_or}
use Rattle.byteorder.specs.Endian.{big_number}
use Rattle.wire_addr.specs.Printed.{hex}
use Rattle.wire_tcp.specs.Tcp.{ack_bits_of, ack_of, cwr_of, dst_port_of, ece_of, fin_of, has_lengths, header_len, ns_of, options_of, psh_of, rst_of, seq_bits_of, src_port_of, syn_of, urg_of, urgent_at_of, window_len_of}
use Rattle.wire_tcp_options.specs.TcpItems.{Item, first_blocks, first_item, is_timestamp, stamps}
use Rattle.wire_tcp_options.specs.declared.tcp.option.TcpOption.{TcpOption}
use Rattle.wire_tcp_options.specs.declared.tcp.option.TcpOption.TheVariants.{EndOfList, NoOperation, MaxSegmentSize, WindowScale, SackPermitted, SackRange, TimeStamp, Unknown}

-- ---- the header

-- the printed text of the ports
abbrev pub ports_text : ℕ → ℕ → List ℕ
ports_text src dst = codes "TCP src=" ++ (decimal src ++ (codes " dst=" ++ decimal dst))

-- the text if a flag is 1, else nothing
abbrev pub where_set : ℕ → List ℕ → List ℕ
where_set flag text = if flag == 1 then text else []

-- the printed text of the flags that are set
unfoldable pub flags_text : List ℕ → List ℕ
flags_text bytes =
    where_set (syn_of bytes) (codes " syn") ++ where_set (fin_of bytes) (codes " fin") ++ where_set (rst_of bytes) (codes " rst")
    ++ where_set (psh_of bytes) (codes " psh") ++ where_set (ece_of bytes) (codes " ece") ++ where_set (cwr_of bytes) (codes " cwr")
    ++ where_set (ns_of bytes) (codes " ns")

-- a name and a number in decimal
abbrev pub numbered : List ℕ → ℕ → List ℕ
numbered name n = name ++ decimal n

-- a name and a number in decimal, if there is a number
abbrev pub numbered_some : List ℕ → Option ℕ → List ℕ
numbered_some name n = option_map_or (numbered name) n []

-- the printed text of the numbers of a header, and of the length of the payload
unfoldable pub numbers_text : ℕ → Option ℕ → ℕ → Option ℕ → ℕ → List ℕ
numbers_text seq ack window urgent len =
    numbered (codes " seq=") seq ++ numbered_some (codes " ack=") ack ++ numbered (codes " win=") window
    ++ numbered_some (codes " urg=") urgent ++ numbered (codes " len=") len

-- a number, if a flag is 1
abbrev pub number_where : ℕ → ℕ → Option ℕ
number_where flag n = if flag == 1 then Some n else None

-- the printed text of the numbers of the header that the bytes begin with
abbrev pub fields_text : List ℕ → List ℕ
fields_text bytes =
    numbers_text (seq_bits_of bytes) (number_where (ack_of bytes) (ack_bits_of bytes)) (window_len_of bytes) (number_where (urg_of bytes) (urgent_at_of bytes)) (length bytes - header_len bytes)

-- ---- options

-- the printed text of the two edges of a SACK block
abbrev pub edges_text : ℕ × ℕ → List ℕ
edges_text r = codes "(" ++ (decimal r.0 ++ (codes ", " ++ (decimal r.1 ++ codes ")")))

-- the printed text of a SACK block, or `None`
abbrev pub range_text : Option (ℕ × ℕ) → List ℕ
range_text None = codes "None"
range_text (Some r) = codes "Some(" ++ edges_text r ++ codes ")"

-- the printed text of SACK blocks, with `, ` between them, in square brackets
abbrev pub ranges_text : List (Option (ℕ × ℕ)) → List ℕ
ranges_text ranges = codes "[" ++ join_by range_text (codes ", ") ranges ++ codes "]"

-- a number of 32 bits in eight hex digits
abbrev pub hex_word : ℕ → List ℕ
hex_word n = replicate (8 - length (hex n)) 48 ++ hex n

-- the printed text of an option
abbrev pub shown : TcpOption → List ℕ
shown EndOfList = []
shown NoOperation = []
shown (MaxSegmentSize size) = codes " mss=" ++ decimal size
shown (WindowScale scale) = codes " ws=" ++ decimal scale
shown SackPermitted = codes " sACK"
shown (SackRange ranges) = codes " sACKr" ++ ranges_text ranges
shown (TimeStamp tsval tsecr) = codes " tsval " ++ hex_word tsval ++ codes " tsecr " ++ hex_word tsecr
shown (Unknown kind bytes) = codes " opt(" ++ decimal kind ++ codes ")"

-- the text of the option that an item parses as
abbrev pub item_text : Item → List ℕ
item_text i =
    if i.kind == 1 then [] else if i.kind == 2 then shown (MaxSegmentSize (big_number 2 i.content))
    else if i.kind == 3 then shown (WindowScale (big_number 1 i.content)) else if i.kind == 4 then shown SackPermitted
    else if i.kind == 5 then shown (SackRange (first_blocks i.content))
    else if is_timestamp i then shown (TimeStamp (stamps i.content).0 (stamps i.content).1)
    else codes " opt(" ++ decimal i.kind ++ codes ")"

-- the texts of the items in at most n bytes, up to the end of the list or the first malformed item
unfoldable pub options_text_within : ℕ → List ℕ → List ℕ
options_text_within n [] = []
options_text_within zero (kind ∷ rest) = []
options_text_within (suc n) (kind ∷ rest) =
    if kind == 0 then []
    else option_map_or (λ d. item_text d.0 ++ options_text_within n d.1) (first_item (kind ∷ rest)) (codes " (wire::Error)")

-- the texts of the items, up to the end of the list or the first malformed item
abbrev pub options_text : List ℕ → List ℕ
options_text bytes = options_text_within (length bytes) bytes

-- ---- the segment

-- the printed text of a segment: its fields and its options, or that the lengths are invalid
unfoldable pub packet_text : List ℕ → List ℕ
packet_text bytes =
    if has_lengths bytes then
    ports_text (src_port_of bytes) (dst_port_of bytes) ++ (flags_text bytes ++ (fields_text bytes ++ options_text (options_of bytes)))
    else codes "TCP (wire::Error)"
