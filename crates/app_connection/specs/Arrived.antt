-- What has come to the other end of a run.
-- Pinned by: `connection/figures`
use Rattle.std.specs.Prelude.{ℕ, ◌≡◌, ◌++◌, List, take, true}
use Rattle.tcp_stream.specs.Ring.{ring}
use Rattle.tcp_stream.specs.Waits.{count_of}
use Rattle.app_connection.specs.Runs.{End, Ends}

-- the bytes that came in order, and wait in the ring until the application reads them
abbrev pub unread_of : End → List ℕ
unread_of a = take a.connection.receiving.len (ring a.connection.receiving.start a.incoming)

-- All that one application wrote has come to the other end, and its end too.
pub record HasCome (a b : End) : Type 0 where
  pub bytes : b.read ++ unread_of b ≡ a.wrote
  pub end : a.connection.sending.is_closed ≡ true → b.connection.receiving.has_fin ≡ true

-- It has if nothing waits for an acknowledgement.
abbrev pub ComesAcross : End → End → Type 0
ComesAcross a b = a.was_opened ≡ true → count_of a.connection.sending ≡ 0 → HasCome a b

-- both directions
pub record BothComeAcross (p : Ends) : Type 0 where
  pub here : ComesAcross p.here p.there
  pub there : ComesAcross p.there p.here
