use Rattle.std.proofs.Common.{◌≡◌, ◌≢◌, [], None, List}
use Rattle.dpe_model.specs.History.{Entry}
use Rattle.dpe_connections.specs.Drawn.{Draws}
use Rattle.dpe_connections.specs.Endings.{ending_of, words_more}
use Rattle.dpe_connections.specs.Passes.{MadeJust}
use Rattle.dpe_connections.specs.Served.{Served}
use Rattle.dpe_connections.proofs.Visiting.{of_seen}
use Rattle.dpe_connections.proofs.connection.serve_connection.Goals as goal

pub returns-clause-made : goal.returns-clause-made
returns-clause-made g c =
    let told = g.C.Duplex.told in
    let v = c.args.pass.now.view in
    let w = c.serve_commands.new.pass.view in
    let ending = ending_of c.serve_commands.result w.full in
    of_seen c.args.connection c.args.desk.now.terms.capacity c.args.locality c.name-name.result ending v w (told c.args.conn.now) (told c.serve_commands.new.conn)
    (g.E.Entropy.words c.args.entropy.now) (g.E.Entropy.words c.serve_commands.new.entropy) c.serve_commands.ensures.served
    (λ (es : List Entry). MadeJust v es w)
    record { name_is = c.name-name.ensures.name; own = c.name-name.ensures.own; names = c.serve_commands.ensures.same.0 }
    c.serve_commands.ensures.sound c.requires.unused c.serve_commands.ensures.served.made

pub returns-clause-served : goal.returns-clause-served
returns-clause-served g c =
    let told = g.C.Duplex.told in
    let v = c.args.pass.now.view in
    let w = c.serve_commands.new.pass.view in
    let ending = ending_of c.serve_commands.result w.full in
    of_seen c.args.connection c.args.desk.now.terms.capacity c.args.locality c.name-name.result ending v w (told c.args.conn.now) (told c.serve_commands.new.conn)
    (g.E.Entropy.words c.args.entropy.now) (g.E.Entropy.words c.serve_commands.new.entropy) c.serve_commands.ensures.served
    (λ (es : List Entry). Served c.args.desk.now.terms.capacity c.args.locality es (told c.args.conn.now) (told c.serve_commands.new.conn) ending)
    record { name_is = c.name-name.ensures.name; own = c.name-name.ensures.own; names = c.serve_commands.ensures.same.0 }
    c.serve_commands.ensures.sound c.requires.unused c.serve_commands.ensures.served.served

pub returns-clause-quiet : goal.returns-clause-quiet
returns-clause-quiet g c =
    let told = g.C.Duplex.told in
    let v = c.args.pass.now.view in
    let w = c.serve_commands.new.pass.view in
    let ending = ending_of c.serve_commands.result w.full in
    of_seen c.args.connection c.args.desk.now.terms.capacity c.args.locality c.name-name.result ending v w (told c.args.conn.now) (told c.serve_commands.new.conn)
    (g.E.Entropy.words c.args.entropy.now) (g.E.Entropy.words c.serve_commands.new.entropy) c.serve_commands.ensures.served
    (λ (es : List Entry). v.full ≢ None → es ≡ [])
    record { name_is = c.name-name.ensures.name; own = c.name-name.ensures.own; names = c.serve_commands.ensures.same.0 }
    c.serve_commands.ensures.sound c.requires.unused c.serve_commands.ensures.served.quiet

pub returns-clause-words : goal.returns-clause-words
returns-clause-words g c =
    let told = g.C.Duplex.told in
    let v = c.args.pass.now.view in
    let w = c.serve_commands.new.pass.view in
    let ending = ending_of c.serve_commands.result w.full in
    of_seen c.args.connection c.args.desk.now.terms.capacity c.args.locality c.name-name.result ending v w (told c.args.conn.now) (told c.serve_commands.new.conn)
    (g.E.Entropy.words c.args.entropy.now) (g.E.Entropy.words c.serve_commands.new.entropy) c.serve_commands.ensures.served
    (λ (es : List Entry). Draws es (words_more ending) (g.E.Entropy.words c.args.entropy.now) (g.E.Entropy.words c.serve_commands.new.entropy))
    record { name_is = c.name-name.ensures.name; own = c.name-name.ensures.own; names = c.serve_commands.ensures.same.0 }
    c.serve_commands.ensures.sound c.requires.unused c.serve_commands.ensures.served.drawn
