-- The writing view of a frame, as the walks of all views take it. Assumes nothing.
use mathlib.Core.Path.{refl}
use mathlib.Core.List.{List}
use Prim.Native.Nat.{ℕ}
use denote.Builtin.{u8}
use denote.Ref.{MutBor}
use Rattle.net_base.proofs.Views.{View}
use Rattle.wire_ethernet.specs.Ethernet.{Writing}
use Rattle.wire_ethernet.specs.contracts.ethernet.EthernetView as T

abbrev pub view : View
view = record {
  name = (T.struct u8).name;
  D = Writing;
  buffer = λ frame. frame.buffer;
  make = λ buffer. record { buffer = buffer };
  eta = λ frame. refl;
  beta = λ buffer. refl;
  propositions = T.the_propositions (MutBor (List ℕ));
}
