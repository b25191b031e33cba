use Rattle.std.proofs.Common.{◌≡◌, List, Some, ap, refl}
use Rattle.std.specs.Prelude.{slice_get}
use Rattle.locks.specs.declared.lock.Lock.{Lock}
use Rattle.interleavings.proofs.stepping.ask.Goals as goal

pub returns-in-Got : goal.returns-in-Got
returns-in-Got c =
    let gets = c.in-Got.ensures.answered in
    let first : slice_get c.args.asking.activation.pending 0 ≡ Some gets.lock =
    ap (λ (locks : List Lock). slice_get locks 0) gets.pending in
    record {
      next = c.in-Got.next;
      state_is = c.state_of.ensures;
      gets = gets;
      named = c.in-Got.ensures.named;
      lock_is = let told = c.lock-lock.ensures in cc;
    }

pub returns-in-Waits : goal.returns-in-Waits
returns-in-Waits c =
    let waits = c.in-Waits.ensures.answered in
    let first : slice_get c.args.asking.activation.pending 0 ≡ Some waits.lock =
    ap (λ (locks : List Lock). slice_get locks 0) waits.pending in
    record {
      section = c.in-Waits.asking;
      state_is = refl;
      waits = waits;
      lock_is = let told = c.lock-lock.ensures in cc;
    }
