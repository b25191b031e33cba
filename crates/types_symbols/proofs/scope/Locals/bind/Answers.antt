use Rattle.std.proofs.Common.{◌≡◌, ◌∙◌, ap, sym, subst, List, ℕ, [], ◌∷◌, ◌++◌, length, Some, None, if◌then◌else◌}
use Rattle.std.proofs.Common.{true, string_bytes, rules}
use Rattle.std.proofs.lemmas.List.{map-append, length-map}
use Rattle.std.specs.Option.{option_or}
use Rattle.std.specs.Rc.{rc_str_bytes}
use Rattle.std.specs.Str.{bytes_eq}
use Rattle.resolution.specs.Scopes.{Local, local_bears, bound}
use Rattle.syntax.specs.Views.{ident}
use Rattle.types_symbols.specs.Working.Found.{found, IsTableOf}
use Rattle.types_symbols.specs.Working.Scoped.{KnownLocals, local_seen, locals_seen, scope_of}
use Rattle.types_symbols.proofs.Tables.{table-more}
use Rattle.types_symbols.proofs.scope.Locals.bind.Goals as goal

pub invariant_of-self : goal.invariant_of-self
invariant_of-self c =
    let s = c.self.inside in
    let named : List ℕ → Local = λ n. record { name = n; kind = c.args.kind; value_type = c.args.value_type; is_visible = true } in
    let text = rc_str_bytes c.args.name.now.text in
    let old = locals_seen s.items.items in
    let name : string_bytes c.in_ok-from_str.field-0 ≡ text = search rules in
    let same : locals_seen c.push_local.new.items.items ≡ old ++ named text ∷ [] =
    ap locals_seen c.in-Ok.ensures.items ∙ map-append local_seen s.items.items (_ ∷ []) ∙ ap (λ (n : List ℕ). old ++ named n ∷ []) name in
    let place : length s.items.items ≡ length old = sym (length-map s.items.items local_seen) in
    subst (λ (ws : List Local). IsTableOf local_bears ws c.push_local.new.names) (sym same) (table-more local_bears old (named text) s.names c.push_local.new.names c.self.invariant
    (λ q. c.in-Ok.ensures.names q ∙ ap (λ (n : ℕ). option_or (found s.names q) (if bytes_eq q text then Some n else None)) place))

pub returns : goal.returns
returns c =
    let s = c.self.inside in
    let named : List ℕ → Local = λ n. record { name = n; kind = c.args.kind; value_type = c.args.value_type; is_visible = true } in
    let text = rc_str_bytes c.args.name.now.text in
    let name : string_bytes c.in_ok-from_str.field-0 ≡ text = c.in_ok-from_str.ensures.ok ∙ c.as_str.ensures.value in
    let same : locals_seen c.push_local.new.items.items ≡ locals_seen s.items.items ++ named text ∷ [] =
    ap locals_seen c.in-Ok.ensures.items ∙ map-append local_seen s.items.items (_ ∷ []) ∙ ap (λ (n : List ℕ). locals_seen s.items.items ++ named n ∷ []) name in
    λ decls. ap (λ (ls : List Local). scope_of decls (record { locals = ls; result = s.result; limits = s.limits })) same
    ∙ ap (λ (k : KnownLocals). bound (scope_of decls k) c.args.kind (ident c.args.name.now) c.args.value_type) c.self.view_is
