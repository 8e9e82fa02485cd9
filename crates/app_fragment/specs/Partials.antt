-- A table of packets that are put together from their fragments (RFC 791, section 3.2; RFC 1122, section 3.3.2; RFC 8200,
-- section 4.5).
-- Pinned by: `fragments/partials`
use Rattle.std.specs.Prelude.{ℕ, ◌≡◌, ◌≢◌, ◌+◌, ◌-◌, ◌*◌, ◌/◌, ◌^◌, ◌<◌, ◌≤◌, ◌⊎◌, ◌==◌, ◌&&◌, not, min, nat_le, if◌then◌else◌, false, Option, None, Some, List, [], ◌∷◌, drop, length, replicate, slice_index_or, slice_range, take}
use Rattle.app_fragment.specs.Datagram.{Collects, EachPacket, IsFirst, IsFirstWritten, IsMixed, IsTooLong, IsWhole, OnePacket, fragments_of}
use Rattle.app_fragment.specs.Fragments.{Agree, IsShaped, Make, end_of}
use Rattle.app_fragment.specs.Parts.{IsOf, fragment_of, packet_len, whole_header_len}
use Rattle.app_fragment.specs.declared.part.FragKey.{FragKey}
use Rattle.app_fragment.specs.declared.partials.Partial.{Partial}
use Rattle.app_fragment.specs.declared.partials.Reassembled.{Reassembled}
use Rattle.app_fragment.specs.declared.partials.Reassembled.TheVariants as answer

-- ---- the table and its memory

-- The table: an entry for each packet of which fragments were received, and a memory, which the entries share.
pub record Table : Type 0 where
  pub partials : List Partial
  pub memory : List ℕ

-- the table with these entries and this memory
abbrev pub table : List Partial → List ℕ → Table
table partials memory = record { partials = partials; memory = memory }

-- the number of bytes in each part of a memory with this length: it has as many equal parts as there are entries
abbrev pub share_len : ℕ → ℕ → ℕ
share_len count len = if count == 0 then 0 else len / count

-- The number of blocks of 8 bytes that a part of this length has room for, at most those of the longest payload: it has a
-- byte for each, which says whether the block was received, and the block.
abbrev pub block_count : ℕ → ℕ
block_count len = min 8192 (len / 9)

-- part i of a memory that has `count` parts
abbrev pub part_of : ℕ → List ℕ → ℕ → List ℕ
part_of count memory i = slice_range memory (i * share_len count (length memory)) ((i + 1) * share_len count (length memory))

-- the bytes at the front of a part that say which blocks were received
abbrev pub received_of : List ℕ → List ℕ
received_of part = take (block_count (length part)) part

-- the blocks of a part, which are after them
abbrev pub buffer_of : List ℕ → List ℕ
buffer_of part = slice_range part (block_count (length part)) (9 * block_count (length part))

-- the longest payload that fits in a part of the memory
abbrev pub room_of : Table → ℕ
room_of t = 8 * block_count (share_len (length t.partials) (length t.memory))

-- an entry that is not in use: all zeros
abbrev pub no_partial : Partial
no_partial = record {
  expires = 0;
  datagram = record {
    key = record {
      ident = 0;
      version = 0;
      protocol = 0;
      unused = replicate 2 0;
      src = replicate 16 0;
      dst = replicate 16 0;
    };
    ends = record { len = 0; high = 0 };
    header = replicate 60 0;
    not_ect = 0;
    ce = 0;
    unused = replicate 2 0;
  };
  dropped = 0;
  link = replicate 14 0;
  unused = 0;
}

-- entry i of a list
abbrev pub partial_at : List Partial → ℕ → Partial
partial_at partials i = slice_index_or partials i no_partial

-- An entry with its part of the memory: which blocks were received, and the blocks.
pub record Entry : Type 0 where
  pub partial : Partial
  pub received : List ℕ
  pub buffer : List ℕ

-- the entry with these bytes and blocks
abbrev pub bare : Partial → List ℕ → List ℕ → Entry
bare partial received buffer = record { partial = partial; received = received; buffer = buffer }

-- the entry with this part of the memory
abbrev pub entry : Partial → List ℕ → Entry
entry partial part = bare partial (received_of part) (buffer_of part)

-- entry i of the table
abbrev pub entry_at : Table → ℕ → Entry
entry_at t i = entry (partial_at t.partials i) (part_of (length t.partials) t.memory i)

-- ---- the entry of a packet

-- The entry has the fragments of the packet with this key, and their time is not over.
pub record IsLiveOf (now : ℕ) (key : FragKey) (p : Partial) : Type 0 where
  pub live : now < p.expires
  pub same : p.datagram.key ≡ key

-- Entry i is the first with the packet of this key.
pub record IsFound (partials : List Partial) (now : ℕ) (key : FragKey) (i : ℕ) : Type 0 where
  pub inside : i < length partials
  pub is : IsLiveOf now key (partial_at partials i)
  pub first : (j : ℕ) → j < i → ¬ IsLiveOf now key (partial_at partials j)

-- No entry has the packet of this key. Entry i makes room: one that is not in use, else the one that expires first, and of
-- several the first. So a packet whose time is over stays, for `expire`, while an entry is not in use.
pub record IsFreed (partials : List Partial) (now : ℕ) (key : FragKey) (i : ℕ) : Type 0 where
  pub inside : i < length partials
  pub none : (j : ℕ) → j < length partials → ¬ IsLiveOf now key (partial_at partials j)
  pub least : (j : ℕ) → j < length partials → (partial_at partials i).expires ≤ (partial_at partials j).expires
  pub first : (j : ℕ) → j < i → (partial_at partials i).expires < (partial_at partials j).expires

-- entry i is for the packet with this key; the law `place_is_unique` says that there is only one
abbrev pub IsPlaceFor : List Partial → ℕ → FragKey → ℕ → Type 0
IsPlaceFor partials now key i = IsFound partials now key i ⊎ IsFreed partials now key i

-- ---- one more fragment

-- The packet is not fragmented: it has offset 0, and no more fragments follow.
pub record IsAlone (packet : List ℕ) : Type 0 where
  pub first : IsFirst packet
  pub last : (fragment_of packet).more ≡ false

-- the end of the time of an entry that begins now: after 60 seconds
abbrev pub expiry : ℕ → ℕ
expiry now = min (now + 60000) (2 ^ 64 - 1)

-- exactly these fragments were received in the time of the entry
abbrev pub Has : Entry → List (List ℕ) → Type 0
Has e ps = Collects e.partial.datagram e.buffer e.received ps

-- The entry begins now, for the packet with this key. It has no fragments yet. The Ethernet header is that of the first
-- one.
pub record IsBegun (now : ℕ) (key : FragKey) (link : List ℕ) (e : Entry) : Type 0 where
  pub same : e.partial.datagram.key ≡ key
  pub expires : e.partial.expires ≡ expiry now
  pub header : e.partial.link ≡ link
  pub sound : e.partial.dropped ≡ 0
  pub empty : Has e []

-- the entry of the packet with this key, in the place of an entry: that one, if it has the packet, or a new one
abbrev pub Opens : ℕ → FragKey → List ℕ → Entry → Entry → Type 0
Opens now key link old e = (IsLiveOf now key old.partial × (e ≡ old)) ⊎ ((¬ IsLiveOf now key old.partial) × IsBegun now key link e)

-- One more fragment: the entry of its packet and the output before and after it.
pub record Step : Type 0 where
  pub packet : List ℕ
  pub old : Entry
  pub new : Entry
  pub before : List ℕ
  pub after : List ℕ

-- The entry stays that of the packet, with the time and the Ethernet header with which it began.
pub record IsKept (s : Step) : Type 0 where
  pub key : s.new.partial.datagram.key ≡ s.old.partial.datagram.key
  pub expires : s.new.partial.expires ≡ s.old.partial.expires
  pub link : s.new.partial.link ≡ s.old.partial.link

-- The fragment is added to those of the packet, which is not dropped.
pub record IsAdded (s : Step) : Type 0 where
  pub kept : IsKept s
  pub alive : s.old.partial.dropped ≡ 0
  pub sound : s.new.partial.dropped ≡ 0
  pub collected : (ps : List (List ℕ)) → Has s.old ps → Has s.new (s.packet ∷ ps)
  pub unwritten : s.after ≡ s.before

-- A part of the packet is missing: the fragments make no payload.
pub record IsIncomplete (s : Step) : Type 0 where
  pub added : IsAdded s
  pub missing : (ps : List (List ℕ)) → Has s.old ps → (payload : List ℕ) → ¬ Make (fragments_of (s.packet ∷ ps)) payload

-- The fragments make a payload, but the packet does not fit in the output.
pub record HasNoRoom (s : Step) : Type 0 where
  pub added : IsAdded s
  pub made : (ps : List (List ℕ)) → Has s.old ps → (payload : List ℕ) × Make (fragments_of (s.packet ∷ ps)) payload
      × (length s.before < whole_header_len s.new.partial.datagram.header + length payload)

-- The packet that the fragments make is written, and its entry ends.
pub record IsCompleted (s : Step) (len : ℕ) : Type 0 where
  pub alive : s.old.partial.dropped ≡ 0
  pub whole : (ps : List (List ℕ)) → Has s.old ps → IsWhole s.old.partial.datagram.key (s.packet ∷ ps) len s.after
  pub least : 20 ≤ len
  pub room : len ≤ length s.before
  pub rest : drop len s.after ≡ drop len s.before
  pub ended : s.new.partial.expires ≡ 0

-- why a packet is dropped: the fragment overlaps others, disagrees with them about congestion, or makes a packet that is
-- too long
abbrev pub Disagrees : List ℕ → List (List ℕ) → Type 0
Disagrees packet ps = ¬ Agree (fragment_of packet) (fragments_of ps) ⊎ IsMixed (packet ∷ ps) ⊎ IsTooLong (packet ∷ ps)

-- The packet is dropped, with all fragments that come in the time of its entry: it was dropped before, or the fragment
-- disagrees with the others.
pub record IsDropped (s : Step) : Type 0 where
  pub kept : IsKept s
  pub dropped : s.new.partial.dropped ≢ 0
  pub why : (s.old.partial.dropped ≢ 0) ⊎ ((ps : List (List ℕ)) → Has s.old ps → Disagrees s.packet ps)
  pub unwritten : s.after ≡ s.before

-- what the fragment does, by the answer
abbrev pub Does : Step → Reassembled → Type 0
Does s answer.Incomplete = IsIncomplete s
Does s (answer.Whole len) = IsCompleted s len
Does s answer.NoRoom = HasNoRoom s
Does s answer.Dropped = IsDropped s
Does s answer.Rejected = ⊥
Does s answer.TooLong = ⊥

-- ---- the calls

-- the packet is no valid fragment: it has no key, or it is fragmented and has no bytes, or no whole blocks and is not the
-- last
abbrev pub IsInvalid : List ℕ → Type 0
IsInvalid packet = (key : FragKey) → IsOf key packet → (¬ IsAlone packet) × (¬ IsShaped (fragment_of packet))

-- the packet is a fragment of the packet with this key
pub record IsFragment (key : FragKey) (packet : List ℕ) : Type 0 where
  pub of : IsOf key packet
  pub part : ¬ IsAlone packet
  pub shaped : IsShaped (fragment_of packet)

-- A packet that is not fragmented is written.
pub record IsGivenBack (packet before after : List ℕ) (len : ℕ) : Type 0 where
  pub whole : (key : FragKey) → IsOf key packet → IsWhole key (packet ∷ []) len after
  pub least : 20 ≤ len
  pub room : len ≤ length before
  pub rest : drop len after ≡ drop len before

-- what is done with a packet that is not fragmented, by the answer
abbrev pub IsReturned : List ℕ → List ℕ → List ℕ → Reassembled → Type 0
IsReturned packet before after (answer.Whole len) = IsGivenBack packet before after len
IsReturned packet before after answer.NoRoom = (length before < whole_header_len packet + length (fragment_of packet).bytes) × (after ≡ before)
IsReturned packet before after _ = ⊥

-- the entry of the packet with this key, and what one more fragment does to it
pub record Adds (now : ℕ) (key : FragKey) (link packet : List ℕ) (old new : Entry) (before after : List ℕ) (given : Reassembled) : Type 0 where
  pub opened : Entry
  pub opens : Opens now key link old opened
  pub does : Does (record { packet = packet; old = opened; new = new; before = before; after = after }) given

-- A fragment comes to the entry of its packet. All other entries are unchanged, with their memory.
pub record Takes (old new : Table) (now : ℕ) (link packet before after : List ℕ) (given : Reassembled) : Type 0 where
  pub key : FragKey
  pub is : IsFragment key packet
  pub fits : end_of (fragment_of packet) ≤ room_of old
  pub place : ℕ
  pub place_is : IsPlaceFor old.partials now key place
  pub adds : Adds now key link packet (entry_at old place) (entry_at new place) before after given
  pub others : (j : ℕ) → j ≢ place → entry_at new j ≡ entry_at old j

-- What `reassemble` does. The cases exclude each other.
pub data Reassembles (old new : Table) (now : ℕ) (link packet before after : List ℕ) : Reassembled → Type 0 where
  -- no valid fragment
  rejected : IsInvalid packet → new ≡ old → after ≡ before → Reassembles old new now link packet before after answer.Rejected
  -- a fragment that does not fit in the memory of a packet
  too_long : (key : FragKey) → IsFragment key packet → room_of old < end_of (fragment_of packet) → new ≡ old → after ≡ before
      → Reassembles old new now link packet before after answer.TooLong
  -- a packet that is not fragmented
  alone : (key : FragKey) → IsOf key packet → IsAlone packet → new ≡ old → (given : Reassembled) → IsReturned packet before after given
      → Reassembles old new now link packet before after given
  -- a fragment
  taken : (given : Reassembled) → Takes old new now link packet before after given → Reassembles old new now link packet before after given

-- the time of the entry is over
pub record IsOver (now : ℕ) (p : Partial) : Type 0 where
  pub used : p.expires ≢ 0
  pub past : p.expires ≤ now

-- the entry after its time: one that is over ends
abbrev pub ended : ℕ → Partial → Partial
ended now p = if not (p.expires == 0) && nat_le p.expires now then record p { expires = 0 } else p

-- The time of the entry is over, and its packet is not dropped: an ICMP error tells its sender, if the first fragment was
-- received.
pub record IsTold (now : ℕ) (p : Partial) : Type 0 where
  pub over : IsOver now p
  pub sound : p.dropped ≡ 0

-- The output begins with a frame of this length: the Ethernet header of the entry, and a first fragment of its packet.
pub record IsFirstFrame (e : Entry) (len : ℕ) (before after : List ℕ) : Type 0 where
  pub fragment_len : ℕ
  pub whole : len ≡ 14 + fragment_len
  pub link : take 14 after ≡ e.partial.link
  pub first : (ps : List (List ℕ)) → Has e ps → OnePacket (IsFirstWritten fragment_len (drop 14 after) (drop 14 before)) ps

-- no frame with the first fragment is written: it was not received, or does not fit in the output
abbrev pub HasNoFirst : Entry → ℕ → Type 0
HasNoFirst e room = (ps : List (List ℕ)) → Has e ps → EachPacket (λ p. ¬ IsFirst p) ps ⊎ OnePacket (λ p. IsFirst p × (room < 14 + packet_len p)) ps

-- exactly those of the entries below this number that are over have ended
pub record EndBelow (old new : List Partial) (now i : ℕ) : Type 0 where
  pub below : (j : ℕ) → j < i → partial_at new j ≡ ended now (partial_at old j)
  pub later : (j : ℕ) → i ≤ j → partial_at new j ≡ partial_at old j

-- no entry below this number gives a frame
abbrev pub AreSilentBelow : Table → ℕ → ℕ → ℕ → Type 0
AreSilentBelow t now room i = (j : ℕ) → j < i → IsTold now (partial_at t.partials j) → HasNoFirst (entry_at t j) room

-- Entry i is the first that gives a frame. It ends, and so do those before it that are over.
pub record IsExpired (old : Table) (new : List Partial) (now : ℕ) (before after : List ℕ) (len i : ℕ) : Type 0 where
  pub inside : i < length old.partials
  pub silent : AreSilentBelow old now (length before) i
  pub told : IsTold now (partial_at old.partials i)
  pub frame : IsFirstFrame (entry_at old i) len before after
  pub end : EndBelow old.partials new now (i + 1)

-- no entry gives a frame, and all that are over end
pub record AreSilent (old : Table) (new : List Partial) (now : ℕ) (before after : List ℕ) : Type 0 where
  pub silent : AreSilentBelow old now (length before) (length old.partials)
  pub end : EndBelow old.partials new now (length old.partials)
  pub unwritten : after ≡ before

-- what `expire` does: a frame of this length is written, or none
abbrev pub Expires : Table → List Partial → ℕ → List ℕ → List ℕ → Option ℕ → Type 0
Expires old new now before after None = AreSilent old new now before after
Expires old new now before after (Some len) = (i : ℕ) × IsExpired old new now before after len i
