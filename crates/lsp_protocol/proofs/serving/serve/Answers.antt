use Rattle.std.proofs.Common.{[], ◌∷◌, ◌++◌, ◌∙◌, refl, rules}
use Rattle.std.proofs.KnownBytes.{Appends-nil, Appends-trans}
use Rattle.lsp_protocol.proofs.LoopLemmas.{taken_none, taken_more, answered_more, ends_behind}
use Rattle.lsp_protocol.proofs.serving.serve.Goals as goal

pub loop-init : goal.loop-init
loop-init g c = record {
  bodies = [];
  out = [];
  read = taken_none _;
  answered = (refl, refl);
  written = Appends-nil _;
  unread = refl;
  unwritten = refl;
}

pub loop-preserved : goal.loop-preserved
loop-preserved g c =
    let (body, bytes, taken, is, appended) = c.in_default.ensures.step in
    let before = c.loop.invariant in
    record {
      bodies = before.bodies ++ body ∷ [];
      out = before.out ++ bytes;
      read = taken_more _ _ _ before.bodies body before.read taken;
      answered = answered_more g.S.Service.answers c.args.service.now c.loop.service c.serve_one.new.service before.bodies before.out body bytes before.answered is;
      written = Appends-trans _ _ _ before.out bytes before.written appended;
      unread = c.in_default.ensures.unread ∙ before.unread;
      unwritten = c.in_default.ensures.unwritten ∙ before.unwritten;
    }

pub returns-in-Some : goal.returns-in-Some
returns-in-Some g c =
    let before = c.loop.invariant in
    record {
      bodies = before.bodies;
      left = g.R.Read.remaining c.loop.incoming.reader;
      read = before.read;
      out = before.out;
      behind = c.loop.service;
      answered = before.answered;
      ends = ends_behind g.S.Service.answers (g.R.Read.remaining c.loop.incoming.reader) _ _ _ before.out c.loop.service c.in-Some.end before.written c.in-Some.ensures.step;
      unread = search rules;
      unwritten = search rules;
    }
