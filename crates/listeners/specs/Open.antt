-- How the code keeps the open sockets: each as the record of its fields, with its messages in a queue.
pub use Rattle.listeners.specs.declared.socket.Socket.{Socket as Open}
use Rattle.listeners.specs.Sockets.{Socket}

-- what a contract sees of it
abbrev pub seen : Open → Socket
seen s =
    record { id = s.id; pid = s.pid; protocol = s.protocol; loopback = s.loopback; messages = s.queue; lost = s.lost }
