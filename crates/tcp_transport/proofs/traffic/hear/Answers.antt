use Rattle.std.proofs.Common.{take}
use Rattle.tcp_transport.proofs.Hearing.{told_heard, told_broken, whole_heard, whole_quiet}
use Rattle.tcp_transport.proofs.traffic.hear.Goals as goal

pub returns-in-Ok-received-clause-told : goal.returns-in-Ok-received-clause-told
returns-in-Ok-received-clause-told g c =
    told_heard g.J.Which.said g.J.Which.reaches g.J.Which.told (g.S.Socket.stands c.args.socket.now) c.args.link.now (take c.in-Ok.count c.read.new.room) _ _ _ _
    c.requires.whole c.in-Ok.ensures.told c.in-Ok-received.ensures.received

pub returns-in-Ok-received-clause-whole : goal.returns-in-Ok-received-clause-whole
returns-in-Ok-received-clause-whole g c =
    whole_heard g.J.Which.said g.J.Which.reaches (g.S.Socket.stands c.args.socket.now) (g.S.Socket.stands c.read.new.socket) c.args.link.now c.received.new.self
    (take c.in-Ok.count c.read.new.room) _ _ c.requires.whole c.in-Ok.ensures.came c.in-Ok-received.ensures.received c.in-Ok-received.ensures.unsent
    c.in-Ok-received.ensures.target

pub returns-in-Err-received-clause-told : goal.returns-in-Err-received-clause-told
returns-in-Err-received-clause-told g c =
    told_broken g.J.Which.said g.J.Which.reaches g.J.Which.told (g.S.Socket.stands c.args.socket.now) c.args.link.now (take c.in-Ok.count c.read.new.room) _ _ _
    c.requires.whole c.in-Ok.ensures.told c.in-Err-received.ensures.received

pub returns-in-Err-clause-whole : goal.returns-in-Err-clause-whole
returns-in-Err-clause-whole g c =
    whole_quiet g.J.Which.said g.J.Which.reaches (g.S.Socket.stands c.args.socket.now) (g.S.Socket.stands c.read.new.socket) c.args.link.now c.requires.whole c.in-Err.ensures.err
