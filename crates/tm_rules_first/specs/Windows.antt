-- The windows that a template's statements declare. This project's own.
use Rattle.std.specs.Prelude.{List, map}
use Rattle.tm_tmpl_types.specs.declared.template.Kind.{Kind}
use Rattle.tm_tmpl_types.specs.declared.template.Kind.TheVariants as said
use Rattle.tm_tmpl_types.specs.declared.template.WindowDecl.{WindowDecl}
use Rattle.tm_plan_map.specs.declared.windows.Kind2.{Kind2}
use Rattle.tm_plan_map.specs.declared.windows.Kind2.TheVariants as kind
use Rattle.tm_plan_map.specs.declared.windows.Window.{Window}

-- how a window is shared, by its word (this project)
abbrev pub kind_of : Kind → Kind2
kind_of said.True = kind.True
kind_of said.False = kind.False
kind_of said.Own = kind.Own

-- the window that a statement declares (this project)
abbrev pub window_of : WindowDecl → Window
window_of w = record { number = w.number; kind = kind_of w.kind; lines = w.lines }

-- the windows that statements declare, in their order (this project)
abbrev pub windows_of : List WindowDecl → List Window
windows_of ws = map window_of ws
