-- The writing view of a segment, as the walks of all views take it. Assumes nothing.
use mathlib.Core.Path.{refl}
use mathlib.Core.List.{List}
use Prim.Native.Nat.{ℕ}
use denote.Builtin.{u8}
use denote.Ref.{MutBor}
use Rattle.net_base.proofs.Views.{View}
use Rattle.wire_tcp.specs.Tcp.{Writing}
use Rattle.wire_tcp.specs.contracts.tcp.packet.TcpView as T

-- how the view is made from its slice, and the slice from the view
abbrev pub view : View
view = record {
  name = (T.struct u8).name;
  D = Writing;
  buffer = λ packet. packet.buffer;
  make = λ buffer. record { buffer = buffer };
  eta = λ packet. refl;
  beta = λ buffer. refl;
  propositions = T.the_propositions (MutBor (List ℕ));
}
