-- If some listed lock is not held, there is a first one of those that are not.
use Rattle.std.proofs.Common.{◌≡◌, ℕ, ◌<◌, List, [], ◌∷◌, length, Option, Some, None, ◌⊎◌, inl, inr, refl, sym, ap}
use Rattle.std.proofs.Common.{◌∙◌, subst, arith}
use Rattle.std.specs.Prelude.{slice_get, slice_index}
use Rattle.std.specs.List.{Contains, flat_map}
use Rattle.std.proofs.lemmas.Bool.{cases_lt}
use Rattle.std.proofs.lemmas.Option.{same_Some, slice_get_within, slice_get-get_or, get_or_from_slice_get}
use Rattle.core_lang.specs.declared.value.Value.{Value}
use Rattle.core_lang.specs.declared.tree.Section.{Section}
use Rattle.core_lang.specs.declared.typed.Typed.{Typed}
use Rattle.locks.specs.declared.lock.Lock.{Lock}
use Rattle.locks.specs.LockPaths.{LockPath, lock_paths, locks_named}
use Rattle.locks.specs.Theory.Members.{in_flat_map, from_flat_map}
use Rattle.locks.specs.Theory.Naming.{named_class}
use Rattle.locks.specs.Order.{Precedes, PrecedesIsStrict}
use Rattle.locks.specs.Theory.Order.{by_rank, by_object}
use Rattle.inserter.specs.Working.Runs.{IsListed, Asks}
use Rattle.inserter.specs.Working.Laws.{IsOrdered}
use Rattle.inserter.proofs.Held.{held_or_not}
use Rattle.inserter.proofs.Listed.{PathLaws, listed_wanted, somewhere}
use Rattle.core_lang.specs.Theory.Items.{not_in_none, in_first, in_rest, in_cases, contains_at, at_contained}

module _ (laws : PathLaws) (strict : PrecedesIsStrict) (program : Typed) (section : Section) (ranks : List ℕ) (lists : List (List ℕ))
    (ok : IsOrdered program section ranks lists) where
  -- the place of a class in the rank list is its rank
  placed : (c : ℕ) → c < length program.classes.items →
      (k : ℕ) × (slice_get ok.ranked.list k ≡ Some c) × (slice_index ranks c ≡ k)
  placed c lt =
      let at = ok.ranked.is_list.all c lt in
      let there : slice_get ok.ranked.list at.0 ≡ Some c = slice_get-get_or ok.ranked.list at.0 c at.1 ∙ ap Some at.2 in
      (at.0, there, get_or_from_slice_get ranks c at.0 0 (ok.ranked.places at.0 c there))

  -- classes of one rank are one
  same_class : (c d : ℕ) → c < length program.classes.items → d < length program.classes.items →
      slice_index ranks c ≡ slice_index ranks d → c ≡ d
  same_class c d lc ld e =
      let x = placed c lc in
      let y = placed d ld in
      let k : x.0 ≡ y.0 = sym x.2 ∙ e ∙ y.2 in
      same_Some c d (sym (subst (λ j. slice_get ok.ranked.list j ≡ Some c) k x.1) ∙ y.1)

  module _ (p : ℕ) (locals : List Value) where
    class_of : (l : Lock) → IsListed program section ranks lists p locals l → l.class < length program.classes.items
    class_of l x =
        let wanted = listed_wanted laws program section ranks lists ok p locals l x in
        let user = somewhere laws program section ranks lists ok p x.path wanted.ahead in
        let c = laws.classes program section user.0 x.path ok.well_formed user.1 in
        subst (λ n. n < length program.classes.items) (sym (named_class x.path program.shape locals l x.named)) (slice_get_within program.classes.items x.path.class c.0 c.1)

    -- of two listed locks one comes first
    compared : (a b : Lock) → IsListed program section ranks lists p locals a →
        IsListed program section ranks lists p locals b →
        (a ≡ b) ⊎ (Precedes ranks a b ⊎ Precedes ranks b a)
    compared a b x y =
        elim (cases_lt (slice_index ranks a.class) (slice_index ranks b.class)) [
          | inl lt ↦ inr (inl (by_rank ranks a b lt))
          | inr ge ↦ elim (cases_lt (slice_index ranks b.class) (slice_index ranks a.class)) [
            | inl gt ↦ inr (inr (by_rank ranks b a gt))
            | inr le ↦ in_class (same_class a.class b.class (class_of a x) (class_of b y) (omega (arith, ge, le)))
          ]
        ]
      where
        in_class : a.class ≡ b.class → (a ≡ b) ⊎ (Precedes ranks a b ⊎ Precedes ranks b a)
        in_class c =
            elim (cases_lt a.object b.object) [
              | inl lt ↦ inr (inl (by_object ranks a b c lt))
              | inr ge ↦ elim (cases_lt b.object a.object) [
                | inl gt ↦ inr (inr (by_object ranks b a (sym c) gt))
                | inr le ↦ let o : a.object ≡ b.object = omega (arith, ge, le) in inl (λ i. record { class = c i; object = o i })
              ]
            ]

    -- ---- the listed locks, as a list

    abbrev locks_at : Option LockPath → List Lock
    locks_at None = []
    locks_at (Some path) = locks_named path program.shape locals

    abbrev of_number : ℕ → List Lock
    of_number i = locks_at (slice_get (lock_paths program section) i)

    abbrev all_of : List ℕ → List Lock
    all_of list = flat_map of_number list

    to_all : (lock : Lock) (x : IsListed program section ranks lists p locals lock) → Contains (all_of x.list) lock
    to_all lock x =
        let k = at_contained x.list x.number x.listed in
        in_flat_map of_number x.list k.0 x.number lock k.1 (subst (λ (o : Option LockPath). Contains (locks_at o) lock) (sym x.is_path) x.named)

    from_all : (list : List ℕ) → slice_get lists p ≡ Some list → (lock : Lock) → Contains (all_of list) lock →
        IsListed program section ranks lists p locals lock
    from_all list here lock c =
        let r = from_flat_map of_number list lock c in
        of_path r.1 (contains_at list r.0 r.1 r.2) (slice_get (lock_paths program section) r.1) refl r.3
      where
        of_path : (i : ℕ) → Contains list i → (o : Option LockPath) → slice_get (lock_paths program section) i ≡ o →
            Contains (locks_at o) lock → IsListed program section ranks lists p locals lock
        of_path i within None e c = absurd (not_in_none lock c)
        of_path i within (Some path) e c = record {
          list = list;
          number = i;
          path = path;
          here = here;
          listed = within;
          is_path = e;
          named = c;
        }

    -- ---- the first of those that are not held

    module _ (held : List Lock) where
      record IsFirst (locks : List Lock) (lock : Lock) : Type 0 where
        listed : IsListed program section ranks lists p locals lock
        new : Contains held lock → ⊥
        first : (other : Lock) → Contains locks other → (Contains held other → ⊥) →
            (other ≡ lock) ⊎ Precedes ranks lock other

      abbrev Found : List Lock → Type 0
      Found locks = ((lock : Lock) → Contains locks lock → Contains held lock) ⊎ ((lock : Lock) × IsFirst locks lock)

      -- one more, which is held
      passed : (l : Lock) (ls : List Lock) → Contains held l → Found ls → Found (l ∷ ls)
      passed l ls c (inl all) =
          inl (λ other d. elim (in_cases l other ls d) [ inl e ↦ subst (λ (x : Lock). Contains held x) e c | inr m ↦ all other m ])
      passed l ls c (inr found) =
          inr (
            found.0,
            record {
              listed = found.1.listed;
              new = found.1.new;
              first = λ other d free. elim (in_cases l other ls d) [
                | inl e ↦ absurd (free (subst (λ (x : Lock). Contains held x) e c))
                | inr m ↦ found.1.first other m free
              ];
            },
          )

      -- one more, which is not held
      more : (l : Lock) (ls : List Lock) → IsListed program section ranks lists p locals l → (Contains held l → ⊥) →
          Found ls → (lock : Lock) × IsFirst (l ∷ ls) lock
      more l ls listed new (inl all) = (
        l,
        record {
          listed = listed;
          new = new;
          first = λ other d free. elim (in_cases l other ls d) [ inl e ↦ inl (sym e) | inr m ↦ absurd (free (all other m)) ];
        },
      )
      more l ls listed new (inr m) =
          elim (compared l m.0 listed m.1.listed) [
            | inl e ↦ kept (λ other same. inl (sym same ∙ e))
            | inr (inl before) ↦ (
              l,
              record {
                listed = listed;
                new = new;
                first = λ other d free. elim (in_cases l other ls d) [
                  | inl e ↦ inl (sym e)
                  | inr further ↦ elim (m.1.first other further free) [
                    | inl e ↦ inr (subst (λ (z : Lock). Precedes ranks l z) (sym e) before)
                    | inr next ↦ inr (strict.goes_on ranks l m.0 other before next)
                  ]
                ];
              },
            )
            | inr (inr behind) ↦ kept (λ other same. inr (subst (λ (z : Lock). Precedes ranks m.0 z) same behind))
          ]
        where
          kept : ((other : Lock) → l ≡ other → (other ≡ m.0) ⊎ Precedes ranks m.0 other) → (lock : Lock) × IsFirst (l ∷ ls) lock
          kept at = (
            m.0,
            record {
              listed = m.1.listed;
              new = m.1.new;
              first = λ other d free. elim (in_cases l other ls d) [ inl e ↦ at other e | inr further ↦ m.1.first other further free ];
            },
          )

      found_in : (locks : List Lock) → ((l : Lock) → Contains locks l → IsListed program section ranks lists p locals l) →
          Found locks
      found_in [] listed = inl (λ l c. absurd (not_in_none l c))
      found_in (l ∷ ls) listed =
          let rest = found_in ls (λ other c. listed other (in_rest l other ls c)) in
          elim (held_or_not held l) [
            | inl c ↦ passed l ls c rest
            | inr new ↦ inr (more l ls (listed l (in_first l ls)) new rest)
          ]

    -- if a listed lock is not held, a run asks for one
    pub some_asked : (held : List Lock) (lock : Lock) → IsListed program section ranks lists p locals lock →
        (Contains held lock → ⊥) →
        (asked : Lock) × Asks program section ranks lists p locals held asked
    some_asked held lock x new =
        elim (found_in held (all_of x.list) (from_all x.list x.here)) [
          | inl all ↦ absurd (new (all lock (to_all lock x)))
          | inr found ↦ (
            found.0,
            record {
              listed = found.1.listed;
              new = found.1.new;
              first = λ other y free. found.1.first other (in_same other y) free;
            },
          )
        ]
      where
        in_same : (other : Lock) → IsListed program section ranks lists p locals other → Contains (all_of x.list) other
        in_same other y =
            subst (λ (l : List ℕ). Contains (all_of l) other) (same_Some y.list x.list (sym y.here ∙ x.here)) (to_all other y)
