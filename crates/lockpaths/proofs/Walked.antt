-- Walks along stable paths, in terms of what is known.
use Rattle.std.proofs.Common.{◌≡◌, ◌≢◌, inl, inr, ℕ, ◌+◌, ◌<◌, Bool, true, false, List, [], ◌∷◌, ◌++◌, length, map}
use Rattle.std.proofs.Common.{take, get_or, Option, Some, None, refl, sym, ap, subst, ◌∙◌, append_assoc, append-nil}
use Rattle.std.proofs.Common.{length-append, arith}
use Rattle.std.specs.Prelude.{slice_get, if◌then◌else◌, ◌==◌, cond}
use Rattle.std.specs.Option.{option_map}
use Rattle.std.proofs.lemmas.Bool.{eq-eqb, ne_eqb}
use Rattle.std.proofs.lemmas.Bool.Decides.{nat_tests}
use Rattle.std.proofs.lemmas.List.{get_or_append_left, get_or_push, map_push, take_all, take-append-le, length_push}
use Rattle.std.proofs.lemmas.Option.{none-some, same_Some, slice_get-map, slice_get-get_or, slice_get_within}
use Rattle.std.proofs.lemmas.Option.{get_or_from_slice_get}
use Rattle.core_lang.specs.Theory.Items.{still_at, last_at}
use Rattle.locks.specs.LockPaths.{StablePath, or_behind, owned_path, past_final}
use Rattle.lockpaths.specs.declared.form.Form.{Form}
use Rattle.lockpaths.specs.declared.form.OwnerBranch.{OwnerBranch}
use Rattle.lockpaths.specs.declared.form.WalkState.{WalkState}
use Rattle.lockpaths.specs.declared.form.WalkState.TheVariants.{Node, Where}
use Rattle.lockpaths.specs.declared.form.Branch.{Branch}
use Rattle.lockpaths.specs.declared.forms.Bound.{Bound}
use Rattle.lockpaths.specs.Working.Forms.{Replacement, stable_path_of, owner_path_of, replacement_of, bound_as}
use Rattle.lockpaths.specs.Working.Forms.{put_in, all_replaced_by}
use Rattle.lockpaths.specs.Working.Nodes.{local_path, longer, nowhere, onto, IsGrown, IsNodeOf}
use Rattle.lockpaths.specs.Working.States.{Known, known, nothing_bound, reads, IsState, IsBefore, begins}
use Rattle.lockpaths.specs.Working.States.{IsBranch, IsReadAs, IsOfLocal, AreForms, IsKept, IsReached, or_local}
use Rattle.lockpaths.specs.Working.States.{IsBranchOf, IsStateOf, IsBoundIn}
use Rattle.lockpaths.proofs.Places.{stood_or_last}
use Rattle.lockpaths.proofs.Replaced.{behind_last}
use Rattle.lockpaths.proofs.Numbered.{onto_nothing, onto_longer}

-- ---- paths more

module _ (old new : Known) (kept : IsKept old new) where
  pub reads_kept : (s : WalkState) → IsState old s → (ns : List ℕ) → reads new s ns ≡ reads old s ns
  reads_kept (Node n) is ns =
      ap (λ (p : StablePath). onto p ns) (ap (λ (ps : List StablePath). get_or ps n nowhere) kept.paths.1 ∙ get_or_append_left old.paths kept.paths.0 nowhere n is)
  reads_kept (Where k) is ns =
      ap (λ (t : List Replacement). all_replaced_by (take (k + 1) t) (record { root = (get_or t k nothing_bound).local; finals = ns })) kept.table

  pub is_kept : (s : WalkState) → IsState old s → IsState new s
  is_kept (Node n) is =
      let all = ap length kept.paths.1 in let long = length-append old.paths kept.paths.0 in omega (arith, is, all, long)
  is_kept (Where k) is = (is.0, ap (λ (ts : List (Option Branch)). slice_get ts k) kept.branches ∙ is.1)

  node_kept : (path : StablePath) (node : ℕ) → IsNodeOf old.paths path node → IsNodeOf new.paths path node
  node_kept path node is = ap (λ (ps : List StablePath). slice_get ps node) kept.paths.1 ∙ still_at old.paths kept.paths.0 node path is

  branch_kept : (k : ℕ) (t : Branch) → IsState old (Where k) → IsBranch old k t → IsBranch new k t
  branch_kept k t there branch = record {
    past = is_kept t.past branch.past;
    other = is_kept t.other branch.other;
    earlier = branch.earlier;
    node = subst (λ (p : StablePath). IsNodeOf new.paths p t.node) (sym (reads_kept (Where k) there [])) (node_kept _ t.node branch.node);
    leads = λ ns. reads_kept t.past branch.past ns ∙ branch.leads ns ∙ sym (reads_kept (Where k) there (t.number ∷ ns));
    stays = λ ns other. reads_kept t.other branch.other ns ∙ branch.stays ns other ∙ sym (reads_kept (Where k) there ns);
  }

  pub read_as_kept : (s : WalkState) (path : StablePath) → IsReadAs old s path → IsReadAs new s path
  read_as_kept s path is = record {
    is = is_kept s is.is;
    same = λ ns. reads_kept s is.is ns ∙ is.same ns ∙ sym (ap (λ (t : List Replacement). all_replaced_by t (onto path ns)) kept.table);
  }

  local_kept : (local : ℕ) (o : Option WalkState) → IsOfLocal old local o → IsOfLocal new local o
  local_kept local None is = λ ns. is ns ∙ sym (ap (λ (t : List Replacement). all_replaced_by t (onto (local_path local) ns)) kept.table)
  local_kept local (Some s) is = read_as_kept s (local_path local) is

  pub forms_kept : (states : ℕ → Option WalkState) → AreForms old states → AreForms new states
  forms_kept states are = record {
    even = ap length kept.branches ∙ are.even ∙ sym (ap length kept.table);
    branches = λ k t at. let before = sym (ap (λ (ts : List (Option Branch)). slice_get ts k) kept.branches) ∙ at in branch_kept k t (t, before) (are.branches k t before);
    locals = λ local. local_kept local (states local) (are.locals local);
  }

pub kept_same : (f : Known) → IsKept f f
kept_same f = record { table = refl; branches = refl; paths = ([], sym (append-nil f.paths)) }

pub kept_on : (a b d : Known) → IsKept a b → IsKept b d → IsKept a d
kept_on a b d x y = record {
  table = y.table ∙ x.table;
  branches = y.branches ∙ x.branches;
  paths = (x.paths.0 ++ y.paths.0, y.paths.1 ∙ ap (λ (ps : List StablePath). ps ++ y.paths.0) x.paths.1 ∙ append_assoc a.paths x.paths.0 y.paths.0);
}

-- ---- a binding more

put : (table : List Replacement) (r : Replacement) (ns : List ℕ) →
    all_replaced_by (table ++ r ∷ []) (record { root = r.local; finals = ns }) ≡ all_replaced_by table (put_in r (record { root = r.local; finals = ns }))
put table r ns =
    behind_last table r _
    ∙ ap (λ (b : Bool). all_replaced_by table (if b then put_in r (record { root = r.local; finals = ns }) else record { root = r.local; finals = ns })) (eq-eqb r.local r.local refl)

put_not : (table : List Replacement) (r : Replacement) (path : StablePath) → (r.local == path.root) ≡ false →
    all_replaced_by (table ++ r ∷ []) path ≡ all_replaced_by table path
put_not table r path other =
    behind_last table r path ∙ ap (λ (b : Bool). all_replaced_by table (if b then put_in r path else path)) other

-- without an owner, the bound value is read
behind_value : (local : ℕ) (value : Option Form) (ns : List ℕ) →
    or_behind None (option_map stable_path_of value) (record { root = local; finals = ns }) ≡ onto (or_local local value) ns
behind_value local None ns = refl
behind_value local (Some form) ns = refl

not_owned : (owner : OwnerBranch) (path : StablePath) → begins owner.number path.finals ≡ false →
    owned_path (Some (owner_path_of owner)) path ≡ None
not_owned owner path other = by path.finals other
  where
    by : (fs : List ℕ) → begins owner.number fs ≡ false → past_final (owner_path_of owner) fs ≡ None
    by [] e = refl
    by (f ∷ fs) e = ap (λ (b : Bool). if b then Some (record { root = owner.local; finals = fs }) else None) e

is_owned : (owner : OwnerBranch) (local : ℕ) (ns : List ℕ) →
    owned_path (Some (owner_path_of owner)) (record { root = local; finals = owner.number ∷ ns }) ≡ Some (onto (local_path owner.local) ns)
is_owned owner local ns = ap (λ (b : Bool). if b then Some (record { root = owner.local; finals = ns }) else None) (eq-eqb owner.number owner.number refl)

module _ (f : Known) (even : length f.branches ≡ length f.table) (r : Replacement) (o : Option Branch) where
  abbrev with_one : Known
  with_one = record { table = f.table ++ r ∷ []; branches = f.branches ++ o ∷ []; paths = f.paths }

  within : (k : ℕ) → IsState f (Where k) → k < length f.table
  within k is = let lt = slice_get_within f.branches k (Some is.0) is.1 in omega (arith, lt, even)

  reads_more : (s : WalkState) → IsState f s → (ns : List ℕ) → reads with_one s ns ≡ reads f s ns
  reads_more (Node n) is ns = refl
  reads_more (Where k) is ns =
      let lt = within k is in
      ap (λ (t : List Replacement). all_replaced_by t (record { root = (get_or (f.table ++ r ∷ []) k nothing_bound).local; finals = ns }))
      (take-append-le (k + 1) f.table (r ∷ []) (omega (arith, lt)))
      ∙ ap (λ (x : Replacement). all_replaced_by (take (k + 1) f.table) (record { root = x.local; finals = ns })) (get_or_append_left f.table (r ∷ []) nothing_bound k lt)

  is_more : (s : WalkState) → IsState f s → IsState with_one s
  is_more (Node n) is = is
  is_more (Where k) is = (is.0, still_at f.branches (o ∷ []) k (Some is.0) is.1)

  branch_more : (k : ℕ) (t : Branch) → IsState f (Where k) → IsBranch f k t → IsBranch with_one k t
  branch_more k t there branch = record {
    past = is_more t.past branch.past;
    other = is_more t.other branch.other;
    earlier = branch.earlier;
    node = subst (λ (p : StablePath). IsNodeOf f.paths p t.node) (sym (reads_more (Where k) there [])) branch.node;
    leads = λ ns. reads_more t.past branch.past ns ∙ branch.leads ns ∙ sym (reads_more (Where k) there (t.number ∷ ns));
    stays = λ ns other. reads_more t.other branch.other ns ∙ branch.stays ns other ∙ sym (reads_more (Where k) there ns);
  }

  -- the path that is read from the binding itself on
  reads_last : (k : ℕ) → k ≡ length f.table → (ns : List ℕ) →
      reads with_one (Where k) ns ≡ all_replaced_by (f.table ++ r ∷ []) (record { root = r.local; finals = ns })
  reads_last k at ns =
      let long = length_push f.table r in
      ap (λ (t : List Replacement). all_replaced_by t (record { root = (get_or (f.table ++ r ∷ []) k nothing_bound).local; finals = ns }))
      (take_all (k + 1) (f.table ++ r ∷ []) (omega (arith, long, at)))
      ∙ ap (λ (x : Replacement). all_replaced_by (f.table ++ r ∷ []) (record { root = x.local; finals = ns })) (get_or_push f.table r nothing_bound k (sym at))

before_last : (f : Known) → length f.branches ≡ length f.table → (k : ℕ) → k ≡ length f.table → (s : WalkState) →
    IsState f s → IsBefore k s
before_last f even k at (Node n) is = tt
before_last f even k at (Where j) is = let lt = slice_get_within f.branches j (Some is.0) is.1 in omega (arith, lt, even, at)

module _ (f : Known) (even : length f.branches ≡ length f.table) (local : ℕ) (owner : Option OwnerBranch) (value : Option Form) (other : WalkState) (is : IsReadAs f other (or_local local value)) where
  abbrev bound : Replacement
  bound = bound_as local owner value

  -- if the owner replaces nothing
  reads_other : (ns : List ℕ) →
      owned_path (option_map owner_path_of owner) (record { root = local; finals = ns }) ≡ None →
      reads f other ns ≡ all_replaced_by (f.table ++ bound ∷ []) (record { root = local; finals = ns })
  reads_other ns none =
      is.same ns
      ∙ sym (ap (all_replaced_by f.table) (ap (λ (q : Option StablePath). or_behind q (option_map stable_path_of value) (record { root = local; finals = ns })) none ∙ behind_value local value ns))
      ∙ sym (put f.table bound ns)

module _ (f : Known) (even : length f.branches ≡ length f.table) (local : ℕ) (owner : OwnerBranch) (value : Option Form) (other : WalkState) (is : IsReadAs f other (or_local local value))
    (t : Branch) (number : t.number ≡ owner.number) (same : t.other ≡ other) (node : IsNodeOf f.paths (reads f other []) t.node) (past : IsReadAs f t.past (local_path owner.local)) where
  abbrev r : Replacement
  r = bound_as local (Some owner) value

  abbrev g : Known
  g = with_one f even r (Some t)

  new_stays : (k : ℕ) → k ≡ length f.table → (ns : List ℕ) → begins t.number ns ≡ false →
      reads f other ns ≡ reads g (Where k) ns
  new_stays k at ns differs =
      reads_other f even local (Some owner) value other is ns (not_owned owner (record { root = local; finals = ns }) (sym (ap (λ (n : ℕ). begins n ns) number) ∙ differs))
      ∙ sym (reads_last f even r (Some t) k at ns)

  new_leads : (k : ℕ) → k ≡ length f.table → (ns : List ℕ) → reads f t.past ns ≡ reads g (Where k) (t.number ∷ ns)
  new_leads k at ns =
      past.same ns
      ∙ sym (reads_last f even r (Some t) k at (t.number ∷ ns) ∙ ap (λ (n : ℕ). all_replaced_by (f.table ++ r ∷ []) (record { root = local; finals = n ∷ ns })) number
      ∙ put f.table r (owner.number ∷ ns)
      ∙ ap (λ (q : Option StablePath). all_replaced_by f.table (or_behind q (option_map stable_path_of value) (record { root = local; finals = owner.number ∷ ns }))) (is_owned owner local ns))

  new_branch : (k : ℕ) → k ≡ length f.table → IsBranch g k t
  new_branch k at = record {
    past = is_more f even r (Some t) t.past past.is;
    other = is_more f even r (Some t) t.other (subst (IsState f) (sym same) is.is);
    earlier = before_last f even k at t.other (subst (IsState f) (sym same) is.is);
    node = subst (λ (p : StablePath). IsNodeOf f.paths p t.node) (new_stays k at [] refl) node;
    leads = λ ns. reads_more f even r (Some t) t.past past.is ns ∙ new_leads k at ns;
    stays = λ ns differs.
        ap (λ (s : WalkState). reads g s ns) same ∙ reads_more f even r (Some t) other is.is ns ∙ new_stays k at ns differs;
  }

  new_state : (k : ℕ) → k ≡ length f.table → IsReadAs g (Where k) (local_path local)
  new_state k at =
      let even' : length f.branches ≡ k = even ∙ sym at in record {
        is = (t, ap (slice_get (f.branches ++ Some t ∷ [])) (sym even') ∙ last_at f.branches (Some t));
        same = reads_last f even r (Some t) k at;
      }

module _ (f : Known) (even : length f.branches ≡ length f.table) (local : ℕ) (value : Option Form) (other : WalkState) (is : IsReadAs f other (or_local local value)) (branch : Option Branch) where
  branch_last : (owner : Option OwnerBranch) → IsBranchOf f owner other branch → (k : ℕ) → k ≡ length f.table →
      (t : Branch) → branch ≡ Some t → IsBranch (with_one f even (bound_as local owner value) branch) k t
  branch_last None none k at t some = absurd (none-some t (sym none ∙ some))
  branch_last (Some owner) of k at t some =
      let made = new_branch f even local owner value other is of.0 of.2 of.3 of.4 of.5 k at in
      subst (λ (u : Option Branch). IsBranch (with_one f even (bound_as local (Some owner) value) u) k t) (sym of.1)
      (subst (IsBranch (with_one f even (bound_as local (Some owner) value) (Some of.0)) k) (same_Some of.0 t (sym of.1 ∙ some)) made)

  state_last : (owner : Option OwnerBranch) → IsBranchOf f owner other branch → (state : WalkState) →
      IsStateOf f other state branch →
      IsReadAs (with_one f even (bound_as local owner value) branch) state (local_path local)
  state_last None none state of =
      let here : state ≡ other = subst (IsStateOf f other state) none of in
      subst (λ (s : WalkState). IsReadAs (with_one f even (bound_as local None value) branch) s (local_path local)) (sym here)
      (record {
        is = is_more f even (bound_as local None value) branch other is.is;
        same = λ ns. reads_more f even (bound_as local None value) branch other is.is ns ∙ reads_other f even local None value other is ns refl;
      })
  state_last (Some owner) of state at =
      let here : state ≡ Where (length f.table) = subst (IsStateOf f other state) of.1 at in
      let made = new_state f even local owner value other is of.0 of.2 of.3 of.4 of.5 (length f.table) refl in
      subst (λ (s : WalkState). IsReadAs (with_one f even (bound_as local (Some owner) value) branch) s (local_path local)) (sym here)
      (subst (λ (u : Option Branch). IsReadAs (with_one f even (bound_as local (Some owner) value) u) (Where (length f.table)) (local_path local)) (sym of.1) made)

module _ (f : Known) (states new : ℕ → Option WalkState) (are : AreForms f states) (b : Bound) (state : WalkState) (is : IsBoundIn f b state)
    (put_there : (q : ℕ) → new q ≡ cond (b.local == q) (Some state) (states q)) where
  abbrev one_more : Known
  one_more = with_one f are.even (replacement_of b) b.branch

  other_local : (q : ℕ) → (b.local == q) ≡ false → (o : Option WalkState) → IsOfLocal f q o → IsOfLocal one_more q o
  other_local q differs None at = λ ns. at ns ∙ sym (put_not f.table (replacement_of b) (onto (local_path q) ns) differs)
  other_local q differs (Some s) at = record {
    is = is_more f are.even (replacement_of b) b.branch s at.is;
    same = λ ns. reads_more f are.even (replacement_of b) b.branch s at.is ns ∙ at.same ns ∙ sym (put_not f.table (replacement_of b) (onto (local_path q) ns) differs);
  }

  local_more : (q : ℕ) (same : Bool) → (b.local == q) ≡ same → IsOfLocal one_more q (cond same (Some state) (states q))
  local_more q true e =
      let one : b.local ≡ q = grind (arith, nat_tests, e) in
      subst (λ (l : ℕ). IsReadAs one_more state (local_path l)) one (state_last f are.even b.local b.value is.0 is.1 b.branch b.owner is.2 state is.3)
  local_more q false e = other_local q e (states q) (are.locals q)

  more_forms : AreForms one_more new
  more_forms = record {
    even = length_push f.branches b.branch ∙ ap (λ (n : ℕ). n + 1) are.even ∙ sym (length_push f.table (replacement_of b));
    branches = λ k t at. elim (stood_or_last f.branches b.branch k (Some t) at) [
      | inl there ↦ branch_more f are.even (replacement_of b) b.branch k t (t, there) (are.branches k t there)
      | inr last ↦ branch_last f are.even b.local b.value is.0 is.1 b.branch b.owner is.2 k (last.0 ∙ are.even) t (sym last.1)
    ];
    locals = λ q. subst (IsOfLocal one_more q) (sym (put_there q ∙ ap (λ (c : Bool). cond c (Some state) (states q)) refl)) (local_more q (b.local == q) refl);
  }

pub bound_forms : (bounds more : List Bound) (b : Bound) (paths : List StablePath) (states new : ℕ →
    Option WalkState) (state : WalkState) → more ≡ bounds ++ b ∷ [] →
    AreForms (known bounds paths) states → IsBoundIn (known bounds paths) b state → ((q : ℕ) → new q ≡ cond (b.local == q) (Some state) (states q)) → AreForms (known more paths) new
bound_forms bounds more b paths states new state grown are is put_there =
    let same : known more paths ≡ one_more (known bounds paths) states new are b state is put_there =
    ap (λ (bs : List Bound). known bs paths) grown
    ∙ ap (λ (t : List Replacement). record { table = t; branches = map (λ (x : Bound). x.branch) (bounds ++ b ∷ []); paths = paths }) (map_push replacement_of bounds b)
    ∙ ap (λ (ts : List (Option Branch)). record { table = map replacement_of bounds ++ replacement_of b ∷ []; branches = ts; paths = paths }) (map_push (λ (x : Bound). x.branch) bounds b) in
    subst (λ (f : Known). AreForms f new) (sym same) (more_forms (known bounds paths) states new are b state is put_there)

-- ---- a walk

-- how many `where`s a state goes back over at most
abbrev pub depth : WalkState → ℕ
depth (Node n) = 0
depth (Where k) = k + 1

pub shallower : (k : ℕ) (s : WalkState) → IsBefore k s → depth s < depth (Where k)
shallower k (Node n) is = omega arith
shallower k (Where j) is = omega (arith, is)

pub number_other : (n m : ℕ) (ns : List ℕ) → n ≢ m → begins n (m ∷ ns) ≡ false
number_other n m ns other = ne_eqb n m other

-- ---- a local by itself, a step, and the node at a state

pub more_nodes : (bounds : List Bound) (old new : List StablePath) → IsGrown old new →
    IsKept (known bounds old) (known bounds new)
more_nodes bounds old new grown = record { table = refl; branches = refl; paths = grown }

pub fresh : (f : Known) (states : ℕ → Option WalkState) → AreForms f states → (local n : ℕ) → states local ≡ None →
    IsNodeOf f.paths (local_path local) n → IsReadAs f (Node n) (local_path local)
fresh f states are local n none is = record {
  is = slice_get_within f.paths n (local_path local) is;
  same = λ ns.
      ap (λ (p : StablePath). onto p ns) (get_or_from_slice_get f.paths n (local_path local) nowhere is)
      ∙ subst (IsOfLocal f local) none (are.locals local) ns;
}

pub known_local : (f : Known) (states : ℕ → Option WalkState) → AreForms f states → (local : ℕ) (s : WalkState) →
    states local ≡ Some s → IsReadAs f s (local_path local)
known_local f states are local s some = subst (IsOfLocal f local) some (are.locals local)

pub stepped : (old new : Known) (nodes : List StablePath) (state : WalkState) (node number m : ℕ) → nodes ≡ old.paths →
    ((ns : List ℕ) → reads old (Node node) (number ∷ ns) ≡ reads old state (number ∷ ns)) → IsNodeOf new.paths (longer (get_or nodes node nowhere) number) m →
    IsReached old state (number ∷ []) new (Node m)
stepped old new nodes state node number m same next is = record {
  is = slice_get_within new.paths m _ is;
  same = λ ns.
      ap (λ (p : StablePath). onto p ns) (get_or_from_slice_get new.paths m _ nowhere is)
      ∙ onto_longer (get_or nodes node nowhere) number ns
      ∙ ap (λ (ps : List StablePath). onto (get_or ps node nowhere) (number ∷ ns)) same
      ∙ next ns;
}

pub node_here : (f : Known) (n : ℕ) → n < length f.paths → IsNodeOf f.paths (reads f (Node n) []) n
node_here f n lt = slice_get-get_or f.paths n nowhere lt ∙ ap Some (sym (onto_nothing (get_or f.paths n nowhere)))

pub branch_here : (bounds : List Bound) (paths : List StablePath) (k : ℕ) (b : Bound) (t : Branch) →
    k < length bounds → b ≡ get_or bounds k b → b.branch ≡ Some t →
    slice_get (known bounds paths).branches k ≡ Some (Some t)
branch_here bounds paths k b t lt is some =
    slice_get-map (λ (x : Bound). x.branch) bounds k
    ∙ ap (option_map (λ (x : Bound). x.branch)) (slice_get-get_or bounds k b lt)
    ∙ ap Some (ap (λ (x : Bound). x.branch) (sym is) ∙ some)

pub walked : (a b d : Known) (s t u : WalkState) (ms rest : List ℕ) (number : ℕ) → ms ≡ number ∷ rest →
    IsReached b t (number ∷ []) d u → (all : List ℕ) → ((ns : List ℕ) → reads b t (ms ++ ns) ≡ reads a s (all ++ ns)) → (ns : List ℕ) → reads d u (rest ++ ns) ≡ reads a s (all ++ ns)
walked a b d s t u ms rest number split reached all before ns =
    reached.same (rest ++ ns) ∙ sym (ap (λ (l : List ℕ). reads b t (l ++ ns)) split) ∙ before ns
