-- Messages that are answered in turn.
use Rattle.std.proofs.Common.{◌≡◌, ◌∙◌, ℕ, List, [], ◌∷◌, ◌++◌, Option, Some, None, refl, sym, ap, subst, append_assoc, append-nil}
use Rattle.std.specs.Io.KnownBytes.{Appends}
use Rattle.std.proofs.KnownBytes.{Appends-trans}
use Rattle.lsp_protocol.specs.Frames.{frame_of, AreFramesOf, TakesFrame, TakesFrames}
use Rattle.lsp_protocol.specs.declared.serving.Next.{Next}
use Rattle.lsp_protocol.specs.declared.serving.Next.TheVariants.{Message}
use Rattle.lsp_protocol.specs.declared.serving.End.{End}
use Rattle.lsp_protocol.specs.declared.serving.End.TheVariants as end
use Rattle.lsp_protocol.specs.Loop.{Answered, IsNext, EndsSo}

-- ---- the bytes that were read

frames_more : (bytes rest behind body : List ℕ) (bodies : List (List ℕ)) → AreFramesOf bytes bodies rest → frame_of rest ≡ Some (body, behind) →
    AreFramesOf bytes (bodies ++ body ∷ []) behind
frames_more bytes rest behind body [] are next = (behind, ap frame_of (sym are) ∙ next, refl)
frames_more bytes rest behind body (first ∷ bodies) (mid, is, are) next = (mid, is, frames_more mid rest behind body bodies are next)

pub taken_none : (input : Option (List ℕ)) → TakesFrames input input []
taken_none None = tt
taken_none (Some bytes) = (bytes, refl, refl)

pub taken_more : (input had left : Option (List ℕ)) (bodies : List (List ℕ)) (body : List ℕ) → TakesFrames input had bodies → TakesFrame had left body →
    TakesFrames input left (bodies ++ body ∷ [])
taken_more None had left bodies body taken next = tt
taken_more (Some bytes) None left bodies body (rest, is, are) next = absurd cc
taken_more (Some bytes) (Some now) left bodies body (rest, is, are) (behind, left_is, next) =
    let here : now ≡ rest = cc in
    (behind, left_is, frames_more bytes now behind body bodies (subst (AreFramesOf bytes bodies) (sym here) are) next)

pub next_of : (had left : Option (List ℕ)) (body : List ℕ) → TakesFrame had left body → IsNext had body
next_of None left body taken = tt
next_of (Some bytes) left body (behind, is, next) = (behind, next)

-- ---- the answers

pub answered_more : {S : Type 0} (answers : S → List ℕ → List ℕ → Next → S → Type 0) (old mid new : S) (bodies : List (List ℕ)) (out body bytes : List ℕ) →
    Answered answers old bodies out mid → answers mid body bytes Message new → Answered answers old (bodies ++ body ∷ []) (out ++ bytes) new
answered_more answers old mid new [] out body bytes (none, same) next =
    (new, bytes, [], subst (λ s. answers s body bytes Message new) same next, (refl, refl), ap (λ l. l ++ bytes) none ∙ sym (append-nil bytes))
answered_more answers old mid new (first ∷ bodies) out body bytes (then, front, rest, is, are, split) next =
    (then, front, rest ++ bytes, is, answered_more answers then mid new bodies rest body bytes are next, ap (λ l. l ++ bytes) split ∙ append_assoc front rest bytes)

-- ---- how it ended

-- a claim about the output holds with the earlier output before it
pub ends_behind : {S : Type 0} (answers : S → List ℕ → List ℕ → Next → S → Type 0) (left first old new : Option (List ℕ)) (out : List ℕ) (service : S) (ended : End) →
    Appends first old out → EndsSo answers left old new [] service ended → EndsSo answers left first new out service ended
ends_behind answers left first old new out service (end.Exit shut_down) before (body, last, after, next, is, appended) =
    (body, last, after, next, is, Appends-trans first old new out last before appended)
ends_behind answers left first old new out service end.Input before (none, appended) =
    (none, subst (Appends first new) (append-nil out) (Appends-trans first old new out [] before appended))
ends_behind answers left first old new out service end.Unread before appended =
    subst (Appends first new) (append-nil out) (Appends-trans first old new out [] before appended)
ends_behind answers left first old new out service end.OutOfMemory before appended =
    subst (Appends first new) (append-nil out) (Appends-trans first old new out [] before appended)
ends_behind answers left first old new out service end.Unwritten before (body, last, next, after, here, is, mid, appended, front) =
    (body, last, next, after, here, is, mid, subst (Appends first mid) (append-nil out) (Appends-trans first old mid out [] before appended), front)
