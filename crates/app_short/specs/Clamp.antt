-- TCP segments whose maximum segment size is above a limit.
-- Pinned by: `worked/route`
use Rattle.std.specs.Prelude.{ℕ, ◌≡◌, ◌<◌, Some}
use Rattle.ip_wire.specs.TcpRepr.{TcpHeader}
use Rattle.ip_wire.specs.declared.TcpControl.TheVariants as control

-- a SYN or SYN-ACK with a maximum segment size above the limit
pub record IsAbove (limit : ℕ) (v : TcpHeader) : Type 0 where
  pub syn : v.control ≡ control.Syn
  pub size : ℕ
  pub sized : v.max_seg_size ≡ Some size
  pub above : limit < size
