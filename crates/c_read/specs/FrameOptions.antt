-- The options of the TCP header in a frame as the struct of C.
-- Pinned by: `worked/options`, `judge`
use Rattle.std.specs.Prelude.{ℕ, ◌≡◌, ◌≢◌, ◌+◌, List, [], slice_range}
use Rattle.ip_wire.specs.TcpItems.{Item}
use Rattle.c_structs.specs.Codes.{transport_code}
use Rattle.c_structs.specs.declared.codes.TransportKind.TheVariants as transport
use Rattle.c_structs.specs.declared.types.FrameFields.{FrameFields}
use Rattle.c_structs.specs.declared.types.TcpOptions.{TcpOptions}
use Rattle.c_read.specs.TcpOptions.{ReadsItems, tcp_options_of}

-- the bytes of the TCP header whose place and length the struct of a frame has
abbrev pub header_in : FrameFields → List ℕ → List ℕ
header_in f frame = slice_range frame f.transport_offset (f.transport_offset + f.tcp.header_len)

-- the struct has the options of the TCP header that was read; zeros if none was
pub record HasOptions (f : FrameFields) (frame : List ℕ) (options : TcpOptions) : Type 0 where
  pub stored : f.transport ≡ transport_code transport.Tcp → (items : List Item) × ReadsItems (header_in f frame) items × (options ≡ tcp_options_of items)
  pub none : f.transport ≢ transport_code transport.Tcp → options ≡ tcp_options_of []
