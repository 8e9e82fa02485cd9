-- What holds of a socket holds of the fields that it is kept in.
use Rattle.std.proofs.Common.{◌≡◌, subst}
use Rattle.app_connection.specs.declared.connection.Connection.{Connection}
use Rattle.app_socket.specs.declared.socket.Socket.{Socket}

-- what one socket makes of another, of equal sockets
pub carried : (P : Socket → Socket → Type 0) (o o' n n' : Socket) → o ≡ o' → n ≡ n' → P o n → P o' n'
carried P o o' n n' old new holds = subst (λ (x : Socket). P x n') old (subst (λ (x : Socket). P o x) new holds)

-- what one connection makes of another, of equal connections
pub handed : (P : Connection → Connection → Type 0) (o o' n n' : Connection) → o ≡ o' → n ≡ n' → P o n → P o' n'
handed P o o' n n' old new holds = subst (λ (x : Connection). P x n') old (subst (λ (x : Connection). P o x) new holds)

-- what holds of a socket, of an equal one
pub moved : (P : Socket → Type 0) (s t : Socket) → s ≡ t → P s → P t
moved P s t same holds = subst P same holds
