use Rattle.dpe_audit.specs.Words.{texts}
use Rattle.dpe_audit.proofs.Parsing.{all_texts, texts_all, not_both, request_paths, paths_request}
use Rattle.dpe_audit.proofs.words.read_words.Goals as goal

pub returns-then-not-are_paths : goal.returns-then-not-are_paths
returns-then-not-are_paths c mode asked =
    not_both c.are_paths.result (c.are_paths.ensures.1 (all_texts c.args.words.now (request_paths (texts c.args.words.now) mode asked))) c.if-not-are_paths.true

pub returns-in-Some : goal.returns-in-Some
returns-in-Some c =
    let paths = texts_all c.args.words.now (c.are_paths.ensures.0 c.if-not-are_paths.false) in
    let found = c.in-Some.ensures.found (texts c.args.words.now) (c.in-Ok.ensures.parsed paths) in
    (paths_request (texts c.args.words.now) c.in-Some.request paths found.0 found.1, found.0)

pub returns-in-Ok : goal.returns-in-Ok
returns-in-Ok c =
    let paths = texts_all c.args.words.now (c.are_paths.ensures.0 c.if-not-are_paths.false) in
    c.in-None.ensures.none (texts c.args.words.now) (c.in-Ok.ensures.parsed paths)

pub returns-then-eq : goal.returns-then-eq
returns-then-eq c = texts_all c.args.words.now (c.are_paths.ensures.0 c.if-not-are_paths.false)
