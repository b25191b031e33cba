-- A lock that is in the list already.
use Rattle.std.proofs.Common.{◌≡◌, ℕ, true, ◌+◌, ◌-◌, ◌<◌, ◌≤◌, List, [], ◌∷◌, ◌++◌, length, take, drop, get_or, reverse, sym, ap, ◌∙◌, arith}
use Rattle.std.specs.Prelude.{if◌then◌else◌}
use Rattle.std.proofs.lemmas.List.{take_more, reverse-append, take-append-drop}
use Rattle.locks.specs.declared.lock.Lock.{Lock}
use Rattle.locks.specs.Locks.{same_lock}
use Rattle.locks.specs.Order.{precedes}
use Rattle.worlds.specs.Asking.{insert}

there : (ranks : List ℕ) (lock next : Lock) (rest : List Lock) → same_lock lock next ≡ true →
    insert ranks lock (next ∷ rest) ≡ next ∷ rest
there ranks lock next rest e =
    ap (λ b. if b then next ∷ rest else if precedes ranks lock next then lock ∷ next ∷ rest else next ∷ insert ranks lock rest) e

last_first : (falling : List Lock) (place : ℕ) (d : Lock) → 0 < place → place ≤ length falling →
    reverse (take place falling) ≡ get_or falling (place - 1) d ∷ reverse (take (place - 1) falling)
last_first falling place d some within =
    let more = take_more falling (place - 1) d (omega (arith, some, within)) in
    let whole : place ≡ (place - 1) + 1 = omega (arith, some) in
    ap (λ (n : ℕ). reverse (take n falling)) whole
    ∙ ap reverse more
    ∙ reverse-append (take (place - 1) falling) (get_or falling (place - 1) d ∷ [])

pub stays : (ranks : List ℕ) (lock : Lock) (falling : List Lock) (place : ℕ) (d : Lock) → 0 < place →
    place ≤ length falling → same_lock lock (get_or falling (place - 1) d) ≡ true →
    insert ranks lock (reverse falling)
    ≡ reverse (drop place falling) ++ insert ranks lock (reverse (take place falling)) →
    insert ranks lock (reverse falling) ≡ reverse falling
stays ranks lock falling place d some within same goes =
    let next = get_or falling (place - 1) d in
    let split = last_first falling place d some within in
    let still = there ranks lock next (reverse (take (place - 1) falling)) same ∙ sym split in
    goes
    ∙ ap (λ (ls : List Lock). reverse (drop place falling) ++ insert ranks lock ls) split
    ∙ ap (λ (ls : List Lock). reverse (drop place falling) ++ ls) still
    ∙ sym (reverse-append (take place falling) (drop place falling))
    ∙ ap reverse (take-append-drop place falling)
